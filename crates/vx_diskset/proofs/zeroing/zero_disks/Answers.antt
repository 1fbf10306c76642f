-- `zero_disks`: its loop.
use Rattle.std.proofs.Common.{Err, arith}
use Rattle.vx_diskset.proofs.Zeroes.{device_later, disks_all, disks_fail, disks_goes, disks_more, disks_start}
use Rattle.vx_diskset.proofs.zeroing.zero_disks.Goals as goal

pub loop-disk-init : goal.loop-disk-init
loop-disk-init g c = disks_start (g.R.Shelf.meaning c.args.rack.now)

pub loop-disk-preserved : goal.loop-disk-preserved
loop-disk-preserved g c = disks_more c.loop-disk.disk (g.R.Shelf.meaning c.args.rack.now) (g.R.Shelf.meaning c.loop-disk.rack) (g.R.Shelf.meaning c.zero_disk.new.rack) c.loop-disk.invariant c.zero_disk.ensures.goes c.zero_disk.ensures.failing
    c.in-Ok.ensures.ok

pub returns-in-Err-clause-goes : goal.returns-in-Err-clause-goes
returns-in-Err-clause-goes g c = disks_goes c.loop-disk.disk (g.R.Shelf.meaning c.args.rack.now) (g.R.Shelf.meaning c.loop-disk.rack) (g.R.Shelf.meaning c.zero_disk.new.rack) c.loop-disk.invariant c.zero_disk.ensures.goes

pub returns-in-Err-clause-cause : goal.returns-in-Err-clause-cause
returns-in-Err-clause-cause g c = device_later (g.R.Shelf.meaning c.args.rack.now) (g.R.Shelf.meaning c.loop-disk.rack) (g.R.Shelf.meaning c.zero_disk.new.rack) (Err c.in-Err.error) c.loop-disk.invariant.goes.disk_faults c.in-Err.ensures.cause

pub returns-in-Err-clause-failing : goal.returns-in-Err-clause-failing
returns-in-Err-clause-failing g c = disks_fail c.loop-disk.disk (g.R.Shelf.meaning c.args.rack.now) (g.R.Shelf.meaning c.loop-disk.rack) (g.R.Shelf.meaning c.zero_disk.new.rack) c.loop-disk.invariant c.zero_disk.ensures.failing

pub zero_disk-requires-clause-there : goal.zero_disk-requires-clause-there
zero_disk-requires-clause-there g c κs within = omega (arith, c.loop-disk.invariant.goes.units, c.loop-disk-test.true, c.units-disks.ensures)

pub returns-clause-ok : goal.returns-clause-ok
returns-clause-ok g c = disks_all c.loop-disk.disk (g.R.Shelf.meaning c.args.rack.now) (g.R.Shelf.meaning c.loop-disk.rack) c.loop-disk.invariant (omega (arith, c.loop-disk-test.false, c.units-disks.ensures))
