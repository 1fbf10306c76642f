-- `flush`: clause goes.
use Rattle.vx_disk.proofs.Runs.{then_nothing}
use Rattle.vx_disk.proofs.memory.MemShelfShelf.flush.Goals as goal

pub returns-clause-goes : goal.returns-clause-goes
returns-clause-goes c = then_nothing _ _ _ _ c.begin.ensures.goes c.flush.ensures.goes
