-- `blank_ring`: clauses leaves and spends.
use Rattle.std.proofs.Common.{arith}
use Rattle.std.proofs.lemmas.Result.{on_ok_weaker}
use Rattle.vx_ringio.proofs.Blanks.{all_chunks, blank_leaves}
use Rattle.vx_disk.proofs.Spending.{spends_flush, then_spends}
use Rattle.vx_ringio.proofs.blank.blank_ring.Goals as goal

pub returns-clause-leaves : goal.returns-clause-leaves
returns-clause-leaves g c = on_ok_weaker c.flush.result
    (blank_leaves c.args.unit c.args.ring _ _ _ c.loop-chunk.invariant.moves (all_chunks _ _ _ _ (omega arith) c.loop-chunk.invariant.zero) c.flush.ensures.goes)
    c.flush.ensures.ok

pub returns-in_err-blank_chunk-clause-spends : goal.returns-in_err-blank_chunk-clause-spends
returns-in_err-blank_chunk-clause-spends g c = then_spends _ _ _ c.loop-chunk.invariant.spends c.blank_chunk.ensures.spends

pub returns-clause-spends : goal.returns-clause-spends
returns-clause-spends g c = then_spends _ _ _ c.loop-chunk.invariant.spends (spends_flush _ _ _ c.flush.result c.flush.ensures.goes c.flush.ensures.cause c.flush.ensures.disks)
