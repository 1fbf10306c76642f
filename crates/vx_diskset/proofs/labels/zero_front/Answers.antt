-- `zero_front`: its write and its flush.
use Rattle.std.proofs.Common.{arith, subst}
use Rattle.std.specs.Prelude.{IfErr}
use Rattle.vx_disk.specs.Causes.{DeviceCause, refusal_of}
use Rattle.vx_disk.proofs.Runs.{then_nothing}
use Rattle.vx_disk.proofs.Spending.{spends_flush, spends_write, then_spends}
use Rattle.vx_diskset.specs.Zeros.{OnlyZeros}
use Rattle.vx_diskset.proofs.LabelLemmas.{front_goes}
use Rattle.vx_diskset.proofs.Zeroes.{device_of}
use Rattle.vx_diskset.proofs.labels.zero_front.Goals as goal

pub returns-in-Ok-clause-goes : goal.returns-in-Ok-clause-goes
returns-in-Ok-clause-goes g c =
    then_nothing OnlyZeros (g.R.Shelf.meaning c.args.rack.now) (g.R.Shelf.meaning c.write.new.self) (g.R.Shelf.meaning c.flush.new.self)
    (front_goes c.args.disk (g.R.Shelf.meaning c.args.rack.now) (g.R.Shelf.meaning c.write.new.self) c.write.ensures.goes) c.flush.ensures.goes

pub returns-in-Ok-clause-spends : goal.returns-in-Ok-clause-spends
returns-in-Ok-clause-spends g c =
    then_spends (g.R.Shelf.meaning c.args.rack.now) (g.R.Shelf.meaning c.write.new.self) (g.R.Shelf.meaning c.flush.new.self)
    (spends_write (g.R.Shelf.meaning c.args.rack.now) (g.R.Shelf.meaning c.write.new.self) c.args.disk 0 _ c.write.result c.write.ensures.goes c.write.ensures.cause c.write.ensures.disks)
    (spends_flush (g.R.Shelf.meaning c.write.new.self) (g.R.Shelf.meaning c.flush.new.self) c.args.disk c.flush.result c.flush.ensures.goes c.flush.ensures.cause c.flush.ensures.disks)

pub returns-in-Ok-clause-cause : goal.returns-in-Ok-clause-cause
returns-in-Ok-clause-cause g c = device_of (g.R.Shelf.meaning c.args.rack.now) (g.R.Shelf.meaning c.write.new.self) (g.R.Shelf.meaning c.flush.new.self) c.args.disk c.flush.result c.write.ensures.goes.disk_faults c.flush.ensures.cause

pub returns-in-Err-clause-goes : goal.returns-in-Err-clause-goes
returns-in-Err-clause-goes g c = front_goes c.args.disk (g.R.Shelf.meaning c.args.rack.now) (g.R.Shelf.meaning c.write.new.self) c.write.ensures.goes

pub returns-in-Err-clause-spends : goal.returns-in-Err-clause-spends
returns-in-Err-clause-spends g c = spends_write (g.R.Shelf.meaning c.args.rack.now) (g.R.Shelf.meaning c.write.new.self) c.args.disk 0 _ c.write.result c.write.ensures.goes c.write.ensures.cause c.write.ensures.disks

pub returns-in-Err-clause-cause : goal.returns-in-Err-clause-cause
returns-in-Err-clause-cause g c =
    subst (λ r. IfErr r (λ e. DeviceCause (g.R.Shelf.meaning c.args.rack.now) (g.R.Shelf.meaning c.write.new.self) (refusal_of e))) c.in-Err.is
    (device_of (g.R.Shelf.meaning c.args.rack.now) (g.R.Shelf.meaning c.args.rack.now) (g.R.Shelf.meaning c.write.new.self) c.args.disk c.write.result (λ d. omega arith) c.write.ensures.cause)
