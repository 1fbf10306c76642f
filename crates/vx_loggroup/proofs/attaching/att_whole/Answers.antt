-- `att_whole`: clauses stands and count; what `att_in` asks.
use Rattle.std.proofs.Common.{◌∙◌, Bool, List, Option, ap, subst, sym}
use Rattle.vx_logs.specs.declared.logs.Logs.{Logs}
use Rattle.vx_fmr.specs.Missed.{Missed}
use Rattle.vx_group.specs.Attaches.{KnowsMissed, missed_regions}
use Rattle.vx_group.specs.Calls.{GroupAttaches}
use Rattle.vx_group.proofs.MissLemmas.{same_count}
use Rattle.vx_model.specs.declared.no.No.{No}
use Rattle.vx_loggroup.specs.Attaching.{map_there}
use Rattle.vx_loggroup.proofs.StayLemmas.{att_any, knows_by}
use Rattle.vx_loggroup.proofs.KeepingLemmas.{shape_places, stay_keeps, stays_same}
use Rattle.vx_loggroup.proofs.attaching.att_whole.Goals as goal

pub att_in-requires-clause-stands : goal.att_in-requires-clause-stands
att_in-requires-clause-stands g c = c.requires.stands.group

pub att_in-requires-clause-knows : goal.att_in-requires-clause-knows
att_in-requires-clause-knows g c = subst (λ (o : Option Missed). KnowsMissed c.args.core.now.inner.config c.args.vol c.args.plex o (g.S.Shelf.meaning c.args.shelf.now)) (sym (c.map_of-fmr.ensures.by ∙ ap (λ (ls : List Logs). map_there ls c.args.core.now.inner.config c.args.stopped c.is_down-down.result c.args.vol c.args.plex) c.as_slice.ensures.value ∙ ap (λ (d : Bool). map_there c.args.logs.now.items c.args.core.now.inner.config c.args.stopped d c.args.vol c.args.plex) c.is_down-down.ensures))
    (knows_by c.args.vol c.args.plex c.args.core.now c.args.logs.now.items c.args.alike.now c.args.stopped (g.S.Shelf.meaning c.args.shelf.now) c.requires.stands)

pub returns-clause-attaches : goal.returns-clause-attaches
returns-clause-attaches g c = subst (λ (o : Option Missed). GroupAttaches c.args.vol c.args.plex o c.args.core.now c.att_in.new.core (g.S.Shelf.meaning c.args.shelf.now) (g.S.Shelf.meaning c.att_in.new.shelf)) (c.map_of-fmr.ensures.by ∙ ap (λ (ls : List Logs). map_there ls c.args.core.now.inner.config c.args.stopped c.is_down-down.result c.args.vol c.args.plex) c.as_slice.ensures.value ∙ ap (λ (d : Bool). map_there c.args.logs.now.items c.args.core.now.inner.config c.args.stopped d c.args.vol c.args.plex) c.is_down-down.ensures) c.att_in.ensures.attaches

pub returns-clause-stands : goal.returns-clause-stands
returns-clause-stands g c =
    att_any c.args.vol c.args.plex c.args.core.now c.att_in.new.core c.args.logs.now.items c.args.alike.now c.args.stopped (g.S.Shelf.meaning c.args.shelf.now) (g.S.Shelf.meaning c.att_in.new.shelf) c.requires.stands c.att_in.ensures.stands
    (subst (λ (o : Option Missed). GroupAttaches c.args.vol c.args.plex o c.args.core.now c.att_in.new.core (g.S.Shelf.meaning c.args.shelf.now) (g.S.Shelf.meaning c.att_in.new.shelf)) (c.map_of-fmr.ensures.by ∙ ap (λ (ls : List Logs). map_there ls c.args.core.now.inner.config c.args.stopped c.is_down-down.result c.args.vol c.args.plex) c.as_slice.ensures.value ∙ ap (λ (d : Bool). map_there c.args.logs.now.items c.args.core.now.inner.config c.args.stopped d c.args.vol c.args.plex) c.is_down-down.ensures) c.att_in.ensures.attaches)
    (λ (no : No) is. let r = c.att_in.ensures.refused no is in (r.1, ap g.S.Shelf.meaning r.2))

pub returns-clause-count : goal.returns-clause-count
returns-clause-count g c = λ off. same_count _ _ c.att_in.result (c.att_in.ensures.count off) (ap (λ (o : Option Missed). missed_regions c.args.core.now.inner.config c.args.vol c.args.plex o) (c.map_of-fmr.ensures.by ∙ ap (λ (ls : List Logs). map_there ls c.args.core.now.inner.config c.args.stopped c.is_down-down.result c.args.vol c.args.plex) c.as_slice.ensures.value ∙ ap (λ (d : Bool). map_there c.args.logs.now.items c.args.core.now.inner.config c.args.stopped d c.args.vol c.args.plex) c.is_down-down.ensures))

pub returns-clause-finds : goal.returns-clause-finds
returns-clause-finds g c =
    c.att_in.ensures.finds

pub returns-clause-free : goal.returns-clause-free
returns-clause-free g c =
    c.att_in.ensures.free

pub returns-clause-alone : goal.returns-clause-alone
returns-clause-alone g c =
    c.att_in.ensures.alone

pub returns-clause-keeps : goal.returns-clause-keeps
returns-clause-keeps g c =
    stay_keeps c.args.core.now c.att_in.new.core c.args.logs.now.items c.args.logs.now.items (g.S.Shelf.meaning c.args.shelf.now) (g.S.Shelf.meaning c.att_in.new.shelf)
    (stays_same c.args.core.now.inner.config c.att_in.new.core.inner.config c.args.logs.now.items (g.S.Shelf.meaning c.args.shelf.now) (g.S.Shelf.meaning c.att_in.new.shelf) (shape_places c.args.core.now.inner.config c.att_in.new.core.inner.config c.att_in.ensures.attaches.shape) c.att_in.ensures.regains.blamed c.att_in.ensures.logs)

pub returns-clause-settles : goal.returns-clause-settles
returns-clause-settles g c = c.att_in.ensures.settles

pub returns-clause-refused : goal.returns-clause-refused
returns-clause-refused g c = c.att_in.ensures.refused

pub returns-clause-already : goal.returns-clause-already
returns-clause-already g c = c.att_in.ensures.already

pub returns-clause-ends : goal.returns-clause-ends
returns-clause-ends g c = c.att_in.ensures.ends

pub returns-clause-regains : goal.returns-clause-regains
returns-clause-regains g c = c.att_in.ensures.regains

pub returns-clause-held : goal.returns-clause-held
returns-clause-held g c = c.att_in.ensures.held

pub returns-clause-trust : goal.returns-clause-trust
returns-clause-trust g c = c.att_in.ensures.trust

pub returns-clause-cause : goal.returns-clause-cause
returns-clause-cause g c = c.att_in.ensures.cause
