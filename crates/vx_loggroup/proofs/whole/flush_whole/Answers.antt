-- `flush_whole`: clauses stands and marks; what the calls ask.
use Rattle.std.proofs.Common.{◌∙◌, refl, sym, arith}
use Rattle.std.proofs.lemmas.Bool.{false_from_ne_true}
use Rattle.vx_disk.specs.Shelf.{Nothing}
use Rattle.vx_group.specs.Holding.{wide}
use Rattle.vx_group.specs.Stands.{inner_meaning}
use Rattle.vx_group.proofs.CallLemmas.{not_down}
use Rattle.vx_loggroup.specs.LoggedVolumes.{is_alike}
use Rattle.vx_loggroup.proofs.AlikeLemmas.{clears_set, done_up, left_up, notes_set, off_set, here_stands, index_low, set_stands}
use Rattle.vx_loggroup.proofs.SetLemmas.{item_of}
use Rattle.vx_logged.specs.Begun.{fell_in}
use Rattle.vx_logged.specs.Behind.{none_missing}
use Rattle.vx_loggroup.proofs.KeepingCalls.{marked_keeps}
use Rattle.vx_group.proofs.HoldLemmas.{wide_shape}
use Rattle.vx_group.proofs.TrustLemmas.{ok_from}
use Rattle.vx_loggroup.proofs.KeepingLemmas.{kept_set}
use Rattle.vx_loggroup.proofs.SureLemmas.{ok_under, set_sure}
use Rattle.vx_loggroup.proofs.whole.flush_whole.Goals as goal

pub index_mut-requires : goal.index_mut-requires
index_mut-requires g c = let lt = (index_low c.args.core.now c.args.logs.now.items c.args.alike.now c.args.stopped (g.S.Shelf.meaning c.args.shelf.now) c.args.vol c.requires.stands c.requires.there) in omega (arith, c.args.logs.now.ok, lt)

pub flush_spent-requires-clause-log : goal.flush_spent-requires-clause-log
flush_spent-requires-clause-log g c = λ is. (c.requires.stands.each c.args.vol c.index_mut.result.now (item_of c.args.logs.now.items c.args.vol c.index_mut.result.now c.index_mut.ensures.value (index_low c.args.core.now c.args.logs.now.items c.args.alike.now c.args.stopped (g.S.Shelf.meaning c.args.shelf.now) c.args.vol c.requires.stands c.requires.there))).on (c.is_sure-sure.ensures.going is)

pub flush_spent-requires-clause-one : goal.flush_spent-requires-clause-one
flush_spent-requires-clause-one g c = λ is. (c.requires.stands.each c.args.vol c.index_mut.result.now (item_of c.args.logs.now.items c.args.vol c.index_mut.result.now c.index_mut.ensures.value (index_low c.args.core.now c.args.logs.now.items c.args.alike.now c.args.stopped (g.S.Shelf.meaning c.args.shelf.now) c.args.vol c.requires.stands c.requires.there))).alike (sym c.is_alike.ensures ∙ c.is_sure-sure.ensures.alike is)
    (not_down c.is_down-down.result (g.S.Shelf.meaning c.args.shelf.now).down c.is_down-down.ensures (c.is_sure-sure.ensures.up is))

pub returns-clause-stands : goal.returns-clause-stands
returns-clause-stands g c =
    set_stands Nothing c.args.core.now c.flush_spent.new.core c.args.logs.now.items c.args.alike.now c.args.alike.now c.args.stopped c.args.stopped c.args.vol c.flush_spent.new.logs (g.S.Shelf.meaning c.args.shelf.now) (g.S.Shelf.meaning c.flush_spent.new.shelf) c.requires.stands c.flush_spent.ensures.stands c.flush_spent.ensures.goes
    (λ w b x apart none. none) (λ off. off) c.flush_spent.ensures.others (λ w apart. refl)
    (here_stands c.args.core.now c.flush_spent.new.core c.args.vol c.index_mut.result.now c.flush_spent.new.logs (is_alike c.args.alike.now c.args.vol) c.args.stopped (g.S.Shelf.meaning c.args.shelf.now) (g.S.Shelf.meaning c.flush_spent.new.shelf)
    (c.requires.stands.each c.args.vol c.index_mut.result.now (item_of c.args.logs.now.items c.args.vol c.index_mut.result.now c.index_mut.ensures.value (index_low c.args.core.now c.args.logs.now.items c.args.alike.now c.args.stopped (g.S.Shelf.meaning c.args.shelf.now) c.args.vol c.requires.stands c.requires.there))) c.flush_spent.ensures.goes c.flush_spent.ensures.log c.flush_spent.ensures.maps)

pub returns-clause-marks : goal.returns-clause-marks
returns-clause-marks g c = clears_set (wide c.args.core.now).config c.args.vol c.args.logs.now.items c.index_mut.result.now c.flush_spent.new.logs (item_of c.args.logs.now.items c.args.vol c.index_mut.result.now c.index_mut.ensures.value (index_low c.args.core.now c.args.logs.now.items c.args.alike.now c.args.stopped (g.S.Shelf.meaning c.args.shelf.now) c.args.vol c.requires.stands c.requires.there)) c.flush_spent.ensures.fewer

pub returns-clause-maps : goal.returns-clause-maps
returns-clause-maps g c = notes_set (fell_in c.args.core.now c.flush_spent.new.core c.args.vol) none_missing c.args.vol 0 0 c.args.logs.now.items c.index_mut.result.now c.flush_spent.new.logs (item_of c.args.logs.now.items c.args.vol c.index_mut.result.now c.index_mut.ensures.value (index_low c.args.core.now c.args.logs.now.items c.args.alike.now c.args.stopped (g.S.Shelf.meaning c.args.shelf.now) c.args.vol c.requires.stands c.requires.there)) c.flush_spent.ensures.notes

pub returns-clause-keeps : goal.returns-clause-keeps
returns-clause-keeps g c = marked_keeps c.args.core.now c.flush_spent.new.core c.args.vol c.args.logs.now.items c.index_mut.result.now c.flush_spent.new.logs (g.S.Shelf.meaning c.args.shelf.now) (g.S.Shelf.meaning c.flush_spent.new.shelf) (item_of c.args.logs.now.items c.args.vol c.index_mut.result.now c.index_mut.ensures.value (index_low c.args.core.now c.args.logs.now.items c.args.alike.now c.args.stopped (g.S.Shelf.meaning c.args.shelf.now) c.args.vol c.requires.stands c.requires.there)) c.flush_spent.ensures.loses.loses c.flush_spent.ensures.trusts c.flush_spent.ensures.drops

pub returns-clause-begins : goal.returns-clause-begins
returns-clause-begins g c = λ alike going.
    done_up c.flush_spent.result (inner_meaning (wide c.args.core.now) (g.S.Shelf.meaning c.args.shelf.now)) (inner_meaning (wide c.flush_spent.new.core) (g.S.Shelf.meaning c.flush_spent.new.shelf)) c.args.vol c.flush_spent.ensures.cause
    (λ up. c.flush_spent.ensures.begins (c.is_sure-sure.ensures.all (c.is_alike.ensures ∙ alike) going (c.is_down-down.ensures ∙ false_from_ne_true (g.S.Shelf.meaning c.args.shelf.now).down up)))
    (λ none. off_set (fell_in c.args.core.now c.flush_spent.new.core c.args.vol) c.args.vol c.args.logs.now.items c.flush_spent.new.logs none)

pub returns-clause-left : goal.returns-clause-left
returns-clause-left g c = λ alike going.
    left_up c.flush_spent.result (g.S.Shelf.meaning c.args.shelf.now) (g.S.Shelf.meaning c.flush_spent.new.shelf) c.flush_spent.ensures.goes.falls
    (λ up. c.flush_spent.ensures.left (c.is_sure-sure.ensures.all (c.is_alike.ensures ∙ alike) going (c.is_down-down.ensures ∙ false_from_ne_true (g.S.Shelf.meaning c.args.shelf.now).down up)))
    (λ none. off_set (fell_in c.args.core.now c.flush_spent.new.core c.args.vol) c.args.vol c.args.logs.now.items c.flush_spent.new.logs none)

pub returns-clause-kept : goal.returns-clause-kept
returns-clause-kept g c = ok_from c.flush_spent.result (set_sure c.args.core.now c.flush_spent.new.core c.args.vol c.args.logs.now.items c.index_mut.result.now c.flush_spent.new.logs (item_of c.args.logs.now.items c.args.vol c.index_mut.result.now c.index_mut.ensures.value (index_low c.args.core.now c.args.logs.now.items c.args.alike.now c.args.stopped (g.S.Shelf.meaning c.args.shelf.now) c.args.vol c.requires.stands c.requires.there)) c.flush_spent.ensures.narrow) (ok_under _ c.flush_spent.result c.flush_spent.ensures.kept)

pub returns-clause-said : goal.returns-clause-said
returns-clause-said g c = λ alike going some.
    done_up c.flush_spent.result (inner_meaning (wide c.args.core.now) (g.S.Shelf.meaning c.args.shelf.now)) (inner_meaning (wide c.flush_spent.new.core) (g.S.Shelf.meaning c.flush_spent.new.shelf)) c.args.vol c.flush_spent.ensures.cause
    (λ up. c.flush_spent.ensures.said (c.is_sure-sure.ensures.all (c.is_alike.ensures ∙ alike) going (c.is_down-down.ensures ∙ false_from_ne_true (g.S.Shelf.meaning c.args.shelf.now).down up)) (let same = (wide_shape c.args.core.now).blocks c.args.vol in omega (arith, some, same)))
    (λ kept. kept_set c.flush_spent.new.core c.args.logs.now.items c.args.vol c.flush_spent.new.logs kept)

pub returns-clause-unsure : goal.returns-clause-unsure
returns-clause-unsure g c = c.flush_spent.ensures.marks

pub returns-clause-gives_up : goal.returns-clause-gives_up
returns-clause-gives_up g c = c.flush_spent.ensures.gives_up

pub returns-clause-goes : goal.returns-clause-goes
returns-clause-goes g c = c.flush_spent.ensures.goes

pub returns-clause-loses : goal.returns-clause-loses
returns-clause-loses g c = c.flush_spent.ensures.loses

pub returns-clause-ok : goal.returns-clause-ok
returns-clause-ok g c = c.flush_spent.ensures.ok

pub returns-clause-finds : goal.returns-clause-finds
returns-clause-finds g c = c.flush_spent.ensures.finds

pub returns-clause-trust : goal.returns-clause-trust
returns-clause-trust g c = c.flush_spent.ensures.trust

pub returns-clause-agreed : goal.returns-clause-agreed
returns-clause-agreed g c = c.flush_spent.ensures.agreed

pub returns-clause-cause : goal.returns-clause-cause
returns-clause-cause g c = c.flush_spent.ensures.cause
