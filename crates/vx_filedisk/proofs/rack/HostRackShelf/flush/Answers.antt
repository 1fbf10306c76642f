-- `flush`: clauses goes and disks.
use Rattle.vx_disk.specs.Meanings.{shelf_meaning}
use Rattle.vx_disk.specs.Shelf.{DisksFlushed}
use Rattle.vx_filedisk.specs.Counting.{counts_of}
use Rattle.vx_filedisk.proofs.Answering.{in_files_disks, in_memory_Goes}
use Rattle.vx_filedisk.proofs.rack.HostRackShelf.flush.Goals as goal

pub returns-in_default-clause-goes : goal.returns-in_default-clause-goes
returns-in_default-clause-goes c = in_memory_Goes _ c.in_default.is _ _ _ _ _ c.args.unit c.flush-answer.result c.flush-answer.ensures.goes c.note.ensures

pub returns-clause-disks : goal.returns-clause-disks
returns-clause-disks c =
    let h = c.args.self.now in
    in_files_disks h.files c.in-Some.files c.in-Some.is (counts_of h.counts) (shelf_meaning h.memory) (DisksFlushed c.args.unit) (DisksFlushed c.args.unit) _ _ c.args.unit c.flush-passed.result _ c.flush-answer-2.ensures c.flush-passed.ensures.disks
