-- `write`: clauses goes, wrote, disks and failing.
use Rattle.std.proofs.Common.{◌≡◌, ◌*◌, ◌/◌, arith, length, refl}
use Rattle.vx_disk.proofs.Changes.{change-goes, change-write, write-Wrote, begins_within}
use Rattle.vx_disk.proofs.DiskChanges.{write-DisksWrote, room_within, same_failing}
use Rattle.vx_disk.proofs.disks.MemDisks.write.Goals as goal

pub returns-clause-goes : goal.returns-clause-goes
returns-clause-goes c =
    let e = c.write.ensures in
    let k = length c.args.bytes.now / 512 in
    let f = c.requires.fits in
    let whole : length c.args.bytes.now ≡ 512 * k = omega (arith, f.whole) in
    let begins = begins_within _ _ _ f.exists c.index_mut.ensures.value c.args.block k f.within in
    change-goes _ _ _ c.args.self.now.units _ _ _ _
    (change-write _ c.args.unit c.write.new.self _ f.exists c.index_mut.ensures.value c.args.block k c.args.bytes.now whole begins e.latest e.stable e.blocks e.faults _)
    refl c.note.ensures

pub returns-clause-wrote : goal.returns-clause-wrote
returns-clause-wrote c =
    let e = c.write.ensures in
    let k = length c.args.bytes.now / 512 in
    let f = c.requires.fits in
    let whole : length c.args.bytes.now ≡ 512 * k = omega (arith, f.whole) in
    let begins = begins_within _ _ _ f.exists c.index_mut.ensures.value c.args.block k f.within in
    write-Wrote _ c.args.unit c.write.new.self _ f.exists c.index_mut.ensures.value c.args.block k c.args.bytes.now whole begins e.latest e.stable e.blocks e.faults _ _ _ _ _ _

pub returns-clause-disks : goal.returns-clause-disks
returns-clause-disks c =
    let e = c.write.ensures in
    let k = length c.args.bytes.now / 512 in
    let f = c.requires.fits in
    let whole : length c.args.bytes.now ≡ 512 * k = omega (arith, f.whole) in
    let begins = begins_within _ _ _ f.exists c.index_mut.ensures.value c.args.block k f.within in
    let room = room_within _ _ _ f.exists c.index_mut.ensures.value _ f.within in
    write-DisksWrote _ c.args.unit c.write.new.self _ f.exists c.index_mut.ensures.value c.args.block k c.args.bytes.now whole begins room e.latest e.stable e.blocks e.faults e.loose _ _

pub returns-clause-failing : goal.returns-clause-failing
returns-clause-failing c = same_failing _ c.args.unit c.write.new.self _ c.requires.fits.exists c.index_mut.ensures.value c.write.ensures.failing
