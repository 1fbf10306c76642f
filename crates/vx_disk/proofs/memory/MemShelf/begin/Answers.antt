-- `begin`: clause goes.
use Rattle.vx_disk.proofs.Runs.{then_nothing}
use Rattle.vx_disk.proofs.memory.MemShelf.begin.Goals as goal

pub returns-clause-goes : goal.returns-clause-goes
returns-clause-goes c = then_nothing _ _ _ _ c.pass.ensures.goes c.count.ensures.goes
