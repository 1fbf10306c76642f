-- `flush_volumes`: clauses blames, spends and works; what stays true in its loop over `vol`.
use Rattle.std.proofs.Common.{arith}
use Rattle.std.proofs.lemmas.Result.{err_from_is_err_and}
use Rattle.vx_rvg.proofs.Blaming.{named_volume, volumes_exit}
use Rattle.vx_disk.proofs.Spending.{spends_flush, spends_none, then_spends}
use Rattle.vx_rvg.proofs.ApplyFlush.{flush_more, none_flushed, works_more}
use Rattle.vx_rvg.proofs.apply.flush_volumes.Goals as goal

pub returns-in_err-flush-clause-spends : goal.returns-in_err-flush-clause-spends
returns-in_err-flush-clause-spends g c = then_spends _ _ _ c.loop-vol.invariant.1 (spends_flush _ _ _ c.flush.result c.flush.ensures.goes c.flush.ensures.cause c.flush.ensures.disks)

pub loop-vol-preserved : goal.loop-vol-preserved
loop-vol-preserved g c = (
  flush_more c.args.core.now.units.vols c.loop-vol.vol _ c.unit.result _ _ _ (omega arith) c.unit.ensures c.loop-vol.invariant.0 c.flush.ensures.goes c.in_ok-flush.ensures.ok c.in_ok-flush.ensures.cause,
  then_spends _ _ _ c.loop-vol.invariant.1 (spends_flush _ _ _ c.flush.result c.flush.ensures.goes c.flush.ensures.cause c.flush.ensures.disks),
  works_more c.args.core.now.units.vols c.loop-vol.vol _ c.unit.result _ _ (omega arith) c.unit.ensures c.loop-vol.invariant.1 c.in_ok-flush.ensures.works c.loop-vol.invariant.2,
)

pub loop-vol-init : goal.loop-vol-init
loop-vol-init g c = (none_flushed c.args.core.now.units.vols _, spends_none _, λ v low. absurd (omega (arith, low)))

pub returns-clause-works : goal.returns-clause-works
returns-clause-works g c = λ v low. c.loop-vol.invariant.2 v (omega (arith, low))

pub returns-in_err-flush-clause-blames : goal.returns-in_err-flush-clause-blames
returns-in_err-flush-clause-blames g c =
    let p = err_from_is_err_and c.from_residual.result c.from_residual.ensures.1 in
    let mid = g.S.Shelf.meaning c.loop-vol.shelf in
    volumes_exit (Unit {0}) (g.S.Shelf.meaning c.args.shelf.now) mid c.args.core.now.units.vols c.from_residual.result p.0 _ p.1 p.2 c.loop-vol.invariant.1
    (named_volume (Unit {0}) mid.disks c.args.core.now.units.vols c.loop-vol.vol c.unit.result _ (omega arith) c.unit.ensures c.in_err-flush.ensures.names)
