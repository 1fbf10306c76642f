-- `read`: clause goes.
use Rattle.vx_filedisk.proofs.Answering.{in_memory_Goes}
use Rattle.vx_filedisk.proofs.rack.HostRackShelf.read.Goals as goal

pub returns-in_default-clause-goes : goal.returns-in_default-clause-goes
returns-in_default-clause-goes c = in_memory_Goes _ c.in_default.is _ _ _ _ _ c.args.unit c.read-answer.result c.read-answer.ensures.goes c.note.ensures
