-- `att_held`: clauses count, attaches, maps, follows, kept, keeps and tests; what `att_following` asks.
use Rattle.std.proofs.Common.{◌∙◌, Bool, List, Option, ap, subst, sym, arith}
use Rattle.vx_fmr.specs.Missed.{Missed}
use Rattle.vx_group.specs.Attaches.{missed_regions}
use Rattle.vx_group.proofs.MissLemmas.{same_count}
use Rattle.vx_logs.specs.declared.logs.Logs.{Logs}
use Rattle.vx_loggroup.specs.Attaching.{LoggedAttaches, MapsHeld, leaves_maps, map_by, went}
use Rattle.vx_loggroup.specs.LoggedVolumes.{is_alike}
use Rattle.vx_loggroup.proofs.FollowLemmas.{held_follows}
use Rattle.vx_loggroup.proofs.GoingLemmas.{held_leaves}
use Rattle.vx_loggroup.proofs.HeldMaps.{by_held}
use Rattle.vx_loggroup.proofs.KeepingCalls.{held_stays}
use Rattle.vx_loggroup.proofs.KeepingLemmas.{then_keeps}
use Rattle.vx_loggroup.proofs.failed_maps.att_held.Goals as goal

pub att_following-requires : goal.att_following-requires
att_following-requires g c = record { stands = c.give_up_all.ensures.stands }

pub returns-clause-count : goal.returns-clause-count
returns-clause-count g c = λ off.
    same_count _ _ c.att_following.result (c.att_following.ensures.count off)
    (ap (λ (o : Option Missed). missed_regions c.args.core.now.inner.config c.args.vol c.args.plex o) (by_held c.args.core.now.inner.config c.args.vol c.args.plex c.args.stopped (g.S.Shelf.meaning c.args.shelf.now).down c.args.logs.now.items c.give_up_all.new.logs.items c.give_up_all.ensures.held))

pub returns-clause-attaches : goal.returns-clause-attaches
returns-clause-attaches g c =
    subst (λ (b : Bool). LoggedAttaches b c.args.vol c.args.plex (map_by c.args.logs.now.items c.args.core.now.inner.config c.args.stopped (g.S.Shelf.meaning c.args.shelf.now).down c.args.vol c.args.plex) c.args.core.now c.att_following.new.core (g.S.Shelf.meaning c.args.shelf.now) (g.S.Shelf.meaning c.att_following.new.shelf))
    (held_leaves (is_alike c.args.alike.now c.args.vol) c.args.stopped c.args.core.now.inner.config c.args.vol c.args.logs.now.items c.give_up_all.new.logs.items c.att_following.new.logs.items c.att_following.result c.give_up_all.ensures.held)
    (subst (λ (o : Option Missed). LoggedAttaches (leaves_maps (is_alike c.args.alike.now c.args.vol) c.args.stopped (went c.give_up_all.new.logs.items c.att_following.new.logs.items c.args.vol) c.att_following.result) c.args.vol c.args.plex o c.args.core.now c.att_following.new.core (g.S.Shelf.meaning c.args.shelf.now) (g.S.Shelf.meaning c.att_following.new.shelf))
    (by_held c.args.core.now.inner.config c.args.vol c.args.plex c.args.stopped (g.S.Shelf.meaning c.args.shelf.now).down c.args.logs.now.items c.give_up_all.new.logs.items c.give_up_all.ensures.held) c.att_following.ensures.attaches)

pub returns-clause-maps : goal.returns-clause-maps
returns-clause-maps g c = λ leaves. subst (λ (ls : List Logs). MapsHeld c.args.core.now.inner.config c.args.logs.now.items ls)
    (sym (c.att_following.ensures.maps (held_leaves (is_alike c.args.alike.now c.args.vol) c.args.stopped c.args.core.now.inner.config c.args.vol c.args.logs.now.items c.give_up_all.new.logs.items c.att_following.new.logs.items c.att_following.result c.give_up_all.ensures.held ∙ leaves))) c.give_up_all.ensures.held

pub returns-clause-follows : goal.returns-clause-follows
returns-clause-follows g c = λ takes. held_follows c.args.core.now.inner.config c.args.vol c.args.plex c.args.logs.now.items c.give_up_all.new.logs.items c.att_following.new.logs.items c.give_up_all.ensures.held
    (c.att_following.ensures.takes (held_leaves (is_alike c.args.alike.now c.args.vol) c.args.stopped c.args.core.now.inner.config c.args.vol c.args.logs.now.items c.give_up_all.new.logs.items c.att_following.new.logs.items c.att_following.result c.give_up_all.ensures.held ∙ takes))

pub returns-clause-kept : goal.returns-clause-kept
returns-clause-kept g c = c.att_following.ensures.kept

pub returns-clause-keeps : goal.returns-clause-keeps
returns-clause-keeps g c =
    then_keeps c.args.core.now c.args.core.now c.att_following.new.core c.args.logs.now.items c.give_up_all.new.logs.items c.att_following.new.logs.items (g.S.Shelf.meaning c.args.shelf.now) (g.S.Shelf.meaning c.args.shelf.now) (g.S.Shelf.meaning c.att_following.new.shelf) (λ v log s at. at) (λ u. omega arith) c.att_following.ensures.attaches.acts.faults c.att_following.ensures.attaches.acts.falls
    (held_stays c.args.core.now.inner.config c.args.logs.now.items c.give_up_all.new.logs.items (g.S.Shelf.meaning c.args.shelf.now) c.give_up_all.ensures.held) c.att_following.ensures.keeps

pub returns-clause-tests : goal.returns-clause-tests
returns-clause-tests g c = λ why is. subst (λ (ls : List Logs). MapsHeld c.args.core.now.inner.config c.args.logs.now.items ls) (sym (c.att_following.ensures.tests why is)) c.give_up_all.ensures.held

pub returns-clause-settles : goal.returns-clause-settles
returns-clause-settles g c = c.att_following.ensures.settles
