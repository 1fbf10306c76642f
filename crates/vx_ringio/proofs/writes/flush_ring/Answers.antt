-- `flush_ring`: clause spends.
use Rattle.vx_disk.proofs.Spending.{spends_flush}
use Rattle.vx_ringio.proofs.writes.flush_ring.Goals as goal

pub returns-clause-spends : goal.returns-clause-spends
returns-clause-spends g c = spends_flush _ _ _ c.flush.result c.flush.ensures.goes c.flush.ensures.cause c.flush.ensures.disks
