-- `bring_one`: clauses moves, brings, blames and spends.
use Rattle.std.proofs.Common.{ℕ, ap, arith}
use Rattle.std.proofs.lemmas.Result.{err_from_is_err_and}
use Rattle.vx_rvg.proofs.Blaming.{named_volume, volumes_exit}
use Rattle.std.proofs.lemmas.List.{length-take-le}
use Rattle.vx_rvg.proofs.ApplyOne.{count_few, kept_at, kept_there, one_brings, one_moves, patched_in}
use Rattle.vx_disk.proofs.Spending.{spends_none, spends_write}
use Rattle.vx_rvg.proofs.apply.bring_one.Goals as goal

pub returns-in_err-write-clause-moves : goal.returns-in_err-write-clause-moves
returns-in_err-write-clause-moves g c =
    one_moves c.args.core.now c.args.n _ _ (kept_at _ _ _ c.front-head.ensures) c.requires.placed (kept_there _ c.args.core.now c.args.n _ c.front-head.ensures c.core.view_is)
    (omega (arith, c.if-head-volumes.false, c.volumes.ensures))
    (omega (arith, c.if-size-count.false, c.if-size-count-2.false, c.size-size.ensures, ap (λ (u : ℕ). (g.S.Shelf.meaning c.args.shelf.now).size u) c.unit-unit.ensures))
    c.unit-unit.result c.unit-unit.ensures _ c.patch.new.into (patched_in _ c.args.core.now _ _ _ _ c.core.view_is c.patch.ensures)
    (length-take-le _ _ (omega (arith, count_few _ c.args.n _ c.front-head.ensures c.ring-ring.ensures.ordered))) c.requires.low c.requires.waits c.write.ensures.goes

pub returns-clause-moves : goal.returns-clause-moves
returns-clause-moves g c =
    one_moves c.args.core.now c.args.n _ _ (kept_at _ _ _ c.front-head.ensures) c.requires.placed (kept_there _ c.args.core.now c.args.n _ c.front-head.ensures c.core.view_is)
    (omega (arith, c.if-head-volumes.false, c.volumes.ensures))
    (omega (arith, c.if-size-count.false, c.if-size-count-2.false, c.size-size.ensures, ap (λ (u : ℕ). (g.S.Shelf.meaning c.args.shelf.now).size u) c.unit-unit.ensures))
    c.unit-unit.result c.unit-unit.ensures _ c.patch.new.into (patched_in _ c.args.core.now _ _ _ _ c.core.view_is c.patch.ensures)
    (length-take-le _ _ (omega (arith, count_few _ c.args.n _ c.front-head.ensures c.ring-ring.ensures.ordered))) c.requires.low c.requires.waits c.write.ensures.goes

pub returns-clause-brings : goal.returns-clause-brings
returns-clause-brings g c =
    one_brings c.args.core.now c.args.n _ _ (kept_at _ _ _ c.front-head.ensures) c.requires.placed (kept_there _ c.args.core.now c.args.n _ c.front-head.ensures c.core.view_is)
    (omega (arith, c.if-head-volumes.false, c.volumes.ensures))
    (omega (arith, c.if-size-count.false, c.if-size-count-2.false, c.size-size.ensures, ap (λ (u : ℕ). (g.S.Shelf.meaning c.args.shelf.now).size u) c.unit-unit.ensures))
    c.unit-unit.result c.unit-unit.ensures _ c.patch.new.into (patched_in _ c.args.core.now _ _ _ _ c.core.view_is c.patch.ensures)
    (length-take-le _ _ (omega (arith, count_few _ c.args.n _ c.front-head.ensures c.ring-ring.ensures.ordered))) (c.in_ok-write.ensures.ok)

pub returns-in_err-write-clause-spends : goal.returns-in_err-write-clause-spends
returns-in_err-write-clause-spends g c = spends_write _ _ _ _ _ c.write.result c.write.ensures.goes c.write.ensures.cause c.write.ensures.disks

pub returns-clause-spends : goal.returns-clause-spends
returns-clause-spends g c = spends_write _ _ _ _ _ c.write.result c.write.ensures.goes c.write.ensures.cause c.write.ensures.disks

pub returns-in_err-write-clause-blames : goal.returns-in_err-write-clause-blames
returns-in_err-write-clause-blames g c =
    let p = err_from_is_err_and c.from_residual.result c.from_residual.ensures.1 in
    let m = g.S.Shelf.meaning c.args.shelf.now in
    volumes_exit ℕ m m c.args.core.now.units.vols c.from_residual.result p.0 _ p.1 p.2 (spends_none m)
    (named_volume (Unit {0}) m.disks c.args.core.now.units.vols _ c.unit-unit.result _ (omega (arith, c.if-head-volumes.false, c.volumes.ensures)) c.unit-unit.ensures c.in_err-write.ensures.names)
