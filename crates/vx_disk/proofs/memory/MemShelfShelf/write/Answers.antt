-- `write`: clause goes.
use Rattle.vx_disk.proofs.Runs.{none_written, nothing_then}
use Rattle.vx_disk.proofs.memory.MemShelfShelf.write.Goals as goal

pub returns-in_err-begin-clause-goes : goal.returns-in_err-begin-clause-goes
returns-in_err-begin-clause-goes c = none_written _ _ _ c.begin.ensures.goes

pub returns-clause-goes : goal.returns-clause-goes
returns-clause-goes c = nothing_then _ _ _ _ c.begin.ensures.goes c.write.ensures.goes
