-- `flush`: clauses goes, flushed, disks and failing.
use Rattle.std.proofs.Common.{refl}
use Rattle.vx_disk.proofs.Changes.{change-goes, change-flush, flush-Flushed}
use Rattle.vx_disk.proofs.DiskChanges.{flush-DisksFlushed, same_failing}
use Rattle.vx_disk.proofs.disks.MemDisks.flush.Goals as goal

pub returns-clause-goes : goal.returns-clause-goes
returns-clause-goes c =
    let e = c.flush.ensures in
    change-goes _ _ _ c.args.self.now.units _ _ _ _
    (change-flush _ c.args.unit c.flush.new.self _ c.requires.unit c.index_mut.ensures.value e.latest e.stable e.blocks e.faults _)
    refl c.note.ensures

pub returns-clause-flushed : goal.returns-clause-flushed
returns-clause-flushed c =
    let e = c.flush.ensures in
    flush-Flushed _ c.args.unit c.flush.new.self _ c.requires.unit c.index_mut.ensures.value e.latest e.stable e.blocks e.faults _ _ _ _ _ _

pub returns-clause-disks : goal.returns-clause-disks
returns-clause-disks c =
    let e = c.flush.ensures in
    flush-DisksFlushed _ c.args.unit c.flush.new.self _ c.requires.unit c.index_mut.ensures.value _ _ e.latest e.stable e.loose

pub returns-clause-failing : goal.returns-clause-failing
returns-clause-failing c = same_failing _ c.args.unit c.flush.new.self _ c.requires.unit c.index_mut.ensures.value c.flush.ensures.failing
