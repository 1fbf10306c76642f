-- `unlabel_disks`: its loop.
use Rattle.std.proofs.Common.{arith, subst}
use Rattle.std.specs.Prelude.{IfErr}
use Rattle.vx_disk.specs.Causes.{DeviceCause}
use Rattle.vx_diskset.proofs.LabelLemmas.{causes_since, unlabels_none, unlabels_then}
use Rattle.vx_diskset.proofs.labels.unlabel_disks.Goals as goal

pub loop-disk-init : goal.loop-disk-init
loop-disk-init g c = unlabels_none (g.R.Shelf.meaning c.args.rack.now)

pub loop-disk-preserved : goal.loop-disk-preserved
loop-disk-preserved g c = unlabels_then (g.R.Shelf.meaning c.args.rack.now) (g.R.Shelf.meaning c.loop-disk.rack) (g.R.Shelf.meaning c.unlabel.new.rack) c.loop-disk.invariant c.unlabel.ensures.zeroes

pub returns-in-Err-clause-zeroes : goal.returns-in-Err-clause-zeroes
returns-in-Err-clause-zeroes g c = unlabels_then (g.R.Shelf.meaning c.args.rack.now) (g.R.Shelf.meaning c.loop-disk.rack) (g.R.Shelf.meaning c.unlabel.new.rack) c.loop-disk.invariant c.unlabel.ensures.zeroes

pub returns-in-Err-clause-cause : goal.returns-in-Err-clause-cause
returns-in-Err-clause-cause g c =
    subst (λ r. IfErr r (DeviceCause (g.R.Shelf.meaning c.args.rack.now) (g.R.Shelf.meaning c.unlabel.new.rack))) c.in-Err.is
    (causes_since (g.R.Shelf.meaning c.args.rack.now) (g.R.Shelf.meaning c.loop-disk.rack) (g.R.Shelf.meaning c.unlabel.new.rack) c.loop-disk.invariant.goes.disk_faults c.unlabel.result c.unlabel.ensures.cause)

pub unlabel-requires-clause-there : goal.unlabel-requires-clause-there
unlabel-requires-clause-there g c = omega (arith, c.loop-disk.invariant.goes.units, c.loop-disk-test.true, c.units-disk-end.ensures)

pub unlabel-requires-clause-some : goal.unlabel-requires-clause-some
unlabel-requires-clause-some g c = omega (arith, c.loop-disk.invariant.goes.size c.loop-disk.disk, c.requires.large.each c.loop-disk.disk (omega (arith, c.loop-disk-test.true, c.units-disk-end.ensures)))
