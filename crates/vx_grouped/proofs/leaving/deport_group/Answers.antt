-- A deport, as the site notes the group: its disks by themselves, or the group that is given back.
use Rattle.std.proofs.Common.{◌∙◌, ◌-◌, ◌<◌, ◌≤◌, None, Option, ap, inl, sym}
use Rattle.std.proofs.lemmas.Bool.{cases_lt}
use Rattle.vx_config.specs.Table.{greatest}
use Rattle.vx_group.specs.Dets.{margin}
use Rattle.vx_group.proofs.CallLemmas.{not_down}
use Rattle.vx_grouped.proofs.DeportedLemmas.{back_cut, back_up, deported_at, device_stops}
use Rattle.vx_grouped.proofs.KeepLemmas.{never_fell, same_at}
use Rattle.vx_grouped.proofs.LeaveMapLemmas.{parts_back, parts_left, quiet_back}
use Rattle.vx_grouped.proofs.BothLemmas.{both_on}
use Rattle.vx_loggroup.proofs.FactLemmas.{from_logged}
use Rattle.vx_logimport.specs.declared.rested.Rested.{Rested}
use Rattle.vx_grouped.proofs.leaving.deport_group.Goals as goal

pub returns-in-Ok-clause-leaves : goal.returns-in-Ok-clause-leaves
returns-in-Ok-clause-leaves g c = λ n note at.
    (c.in-Ok.ensures.ends.config, deported_at n note c.args.group.core (g.S.Shelf.meaning c.args.group.shelf) (g.S.Shelf.meaning c.in-Ok.rack) at.lies c.args.group.stands.group c.in-Ok.ensures.ends (λ is. c.in-Ok.ensures.can (inl is)))

pub returns-then-is_down-clause-limit : goal.returns-then-is_down-clause-limit
returns-then-is_down-clause-limit g c = λ lt.
    absurd (never_fell g.S.Shelf.meaning c.args.group.shelf c.in-Err.group.shelf (ap (λ p. p.0) (c.in-Err.ensures.limit lt).2) c.requires.up (sym c.is_down.ensures ∙ c.if-is_down.true))

pub returns-then-is_down-clause-leaves : goal.returns-then-is_down-clause-leaves
returns-then-is_down-clause-leaves g c = λ n note at.
    back_cut n note c.args.group.core c.in-Err.group.core (g.S.Shelf.meaning c.args.group.shelf) (g.S.Shelf.meaning c.in-Err.group.shelf) at c.in-Err.ensures.ends c.in-Err.ensures.back c.in-Err.ensures.finds (sym c.is_down.ensures ∙ c.if-is_down.true)

pub returns-else-is_down-clause-leaves : goal.returns-else-is_down-clause-leaves
returns-else-is_down-clause-leaves g c = λ n note at.
    back_up n note c.args.group.core c.in-Err.group.core (g.S.Shelf.meaning c.args.group.shelf) (g.S.Shelf.meaning c.in-Err.group.shelf) at c.in-Err.ensures.ends c.in-Err.ensures.back c.in-Err.ensures.finds c.in-Err.stop
    (greatest - margin < c.args.group.core.inner.config.serial) (c.args.group.core.inner.config.serial ≤ greatest - margin) (cases_lt (greatest - margin) c.args.group.core.inner.config.serial)
    (not_down c.is_down.result (g.S.Shelf.meaning c.in-Err.group.shelf).down c.is_down.ensures c.if-is_down.false)
    (λ low. device_stops {S = g.row.S.Denot × Option Rested} (g.S.Shelf.meaning c.args.group.shelf) (λ s. g.S.Shelf.meaning s.0) (λ y. (y.shelf, None)) c.in-Err.group c.in-Err.stop (c.in-Err.ensures.cause low))
    (λ lt. ((c.in-Err.ensures.limit lt).0, same_at g.S.Shelf.meaning n note c.args.group.core c.in-Err.group.core c.args.group.shelf c.in-Err.group.shelf (c.in-Err.ensures.limit lt).1 (ap (λ p. p.0) (c.in-Err.ensures.limit lt).2) at))

pub returns-in-Ok-clause-can : goal.returns-in-Ok-clause-can
returns-in-Ok-clause-can g c = λ is. c.in-Ok.ensures.can (inl is)

pub returns-then-is_down-clause-moves : goal.returns-then-is_down-clause-moves
returns-then-is_down-clause-moves g c = record {
  goes = c.in-Err.ensures.back;
  loses = c.in-Err.ensures.ends.quiesces.loses;
  on = both_on c.args.group.core c.in-Err.group.core (g.S.Shelf.meaning c.args.group.shelf) (g.S.Shelf.meaning c.in-Err.group.shelf) c.args.group.stands.group c.in-Err.group.stands.group;
  agrees = c.in-Err.ensures.agreed;
}

pub returns-else-is_down-clause-moves : goal.returns-else-is_down-clause-moves
returns-else-is_down-clause-moves g c = record {
  goes = c.in-Err.ensures.back;
  loses = c.in-Err.ensures.ends.quiesces.loses;
  on = both_on c.args.group.core c.in-Err.group.core (g.S.Shelf.meaning c.args.group.shelf) (g.S.Shelf.meaning c.in-Err.group.shelf) c.args.group.stands.group c.in-Err.group.stands.group;
  agrees = c.in-Err.ensures.agreed;
}

pub returns-in-Ok-clause-maps : goal.returns-in-Ok-clause-maps
returns-in-Ok-clause-maps g c =
    parts_left c.args.group.core c.args.group.logs.items c.args.group.alike c.args.group.stopped (g.S.Shelf.meaning c.args.group.shelf) (g.S.Shelf.meaning c.in-Ok.rack)
    (from_logged c.args.group.core c.args.group.logs.items c.args.group.alike c.args.group.stopped (g.S.Shelf.meaning c.args.group.shelf) c.args.group.stands) c.in-Ok.ensures.ends c.in-Ok.rested c.in-Ok.ensures.maps.0 c.in-Ok.ensures.maps.1

pub returns-then-is_down-clause-maps : goal.returns-then-is_down-clause-maps
returns-then-is_down-clause-maps g c = λ was now. (parts_back c.args.group.core c.in-Err.group.core c.args.group.logs.items c.in-Err.group.logs.items c.args.group.stopped c.in-Err.group.stopped c.args.group.alike c.in-Err.group.alike (g.S.Shelf.meaning c.args.group.shelf) (g.S.Shelf.meaning c.in-Err.group.shelf) was now c.args.group.stands.group c.in-Err.ensures.ends c.in-Err.ensures.kept, tt)

pub returns-else-is_down-clause-maps : goal.returns-else-is_down-clause-maps
returns-else-is_down-clause-maps g c = λ was now. (
  parts_back c.args.group.core c.in-Err.group.core c.args.group.logs.items c.in-Err.group.logs.items c.args.group.stopped c.in-Err.group.stopped c.args.group.alike c.in-Err.group.alike (g.S.Shelf.meaning c.args.group.shelf) (g.S.Shelf.meaning c.in-Err.group.shelf) was now c.args.group.stands.group c.in-Err.ensures.ends c.in-Err.ensures.kept,
  quiet_back c.args.group.core c.in-Err.group.core c.args.group.logs.items c.in-Err.group.logs.items c.args.group.stopped c.in-Err.group.stopped c.args.group.alike c.in-Err.group.alike (g.S.Shelf.meaning c.args.group.shelf) (g.S.Shelf.meaning c.in-Err.group.shelf) c.in-Err.stop c.in-Err.ensures.kept
      (λ lt. (c.in-Err.ensures.limit lt).1)
      (λ low. device_stops {S = g.row.S.Denot × Option Rested} (g.S.Shelf.meaning c.args.group.shelf) (λ s. g.S.Shelf.meaning s.0) (λ y. (y.shelf, None)) c.in-Err.group c.in-Err.stop (c.in-Err.ensures.cause low)),
)
