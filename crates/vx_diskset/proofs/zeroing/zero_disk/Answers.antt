-- `zero_disk`: its loop, and the flush behind it.
use Rattle.std.proofs.Common.{Err, arith}
use Rattle.vx_diskset.proofs.KeepsFailing.{same_on}
use Rattle.vx_diskset.proofs.Zeroes.{device_of, disk_fails, disk_goes, disk_more, disk_start, flush_goes, flush_leaves}
use Rattle.vx_diskset.proofs.zeroing.zero_disk.Goals as goal

pub loop-done-init : goal.loop-done-init
loop-done-init g c = disk_start c.args.disk (g.R.Shelf.meaning c.args.rack.now)

pub loop-done-preserved : goal.loop-done-preserved
loop-done-preserved g c = disk_more c.args.disk c.loop-done.done (g.R.Shelf.meaning c.args.rack.now) (g.R.Shelf.meaning c.loop-done.rack) (g.R.Shelf.meaning c.zero_run.new.rack) c.loop-done.invariant c.min-count.result
    c.zero_run.ensures.goes c.zero_run.ensures.failing c.in-Ok.ensures.ok

pub returns-in-Err-clause-goes : goal.returns-in-Err-clause-goes
returns-in-Err-clause-goes g c = disk_goes c.args.disk c.loop-done.done (g.R.Shelf.meaning c.args.rack.now) (g.R.Shelf.meaning c.loop-done.rack) (g.R.Shelf.meaning c.zero_run.new.rack) c.loop-done.invariant c.zero_run.ensures.goes

pub returns-in-Err-clause-cause : goal.returns-in-Err-clause-cause
returns-in-Err-clause-cause g c = device_of (g.R.Shelf.meaning c.args.rack.now) (g.R.Shelf.meaning c.loop-done.rack) (g.R.Shelf.meaning c.zero_run.new.rack) c.args.disk (Err c.in-Err.error) c.loop-done.invariant.goes.disk_faults c.in-Err.ensures.cause

pub returns-in-Err-clause-failing : goal.returns-in-Err-clause-failing
returns-in-Err-clause-failing g c = disk_fails c.args.disk c.loop-done.done (g.R.Shelf.meaning c.args.rack.now) (g.R.Shelf.meaning c.loop-done.rack) (g.R.Shelf.meaning c.zero_run.new.rack) c.loop-done.invariant c.zero_run.ensures.failing

pub returns-clause-goes : goal.returns-clause-goes
returns-clause-goes g c = flush_goes c.args.disk c.loop-done.done (g.R.Shelf.meaning c.args.rack.now) (g.R.Shelf.meaning c.loop-done.rack) (g.R.Shelf.meaning c.flush.new.self) c.loop-done.invariant c.flush.ensures.goes

pub returns-clause-ok : goal.returns-clause-ok
returns-clause-ok g c = flush_leaves c.args.disk c.loop-done.done (g.R.Shelf.meaning c.args.rack.now) (g.R.Shelf.meaning c.loop-done.rack) (g.R.Shelf.meaning c.flush.new.self) c.loop-done.invariant c.flush.result c.flush.ensures.goes
    (omega (arith, c.loop-done.invariant.goes.size c.args.disk, c.size-blocks.ensures, c.loop-done-test.false)) c.flush.ensures.ok

pub returns-clause-cause : goal.returns-clause-cause
returns-clause-cause g c = device_of (g.R.Shelf.meaning c.args.rack.now) (g.R.Shelf.meaning c.loop-done.rack) (g.R.Shelf.meaning c.flush.new.self) c.args.disk c.flush.result c.loop-done.invariant.goes.disk_faults c.flush.ensures.cause

pub returns-clause-failing : goal.returns-clause-failing
returns-clause-failing g c = disk_fails c.args.disk c.loop-done.done (g.R.Shelf.meaning c.args.rack.now) (g.R.Shelf.meaning c.loop-done.rack) (g.R.Shelf.meaning c.flush.new.self) c.loop-done.invariant
    (same_on _ (g.R.Shelf.meaning c.loop-done.rack).disks (g.R.Shelf.meaning c.flush.new.self).disks c.flush.ensures.disks)
