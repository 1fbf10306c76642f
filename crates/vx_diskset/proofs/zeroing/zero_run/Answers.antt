-- `zero_run`: what is written are zeros.
use Rattle.vx_diskset.proofs.KeepsFailing.{same_on}
use Rattle.vx_diskset.proofs.Zeroes.{run_gives, run_goes, run_zeros}
use Rattle.vx_diskset.proofs.zeroing.zero_run.Goals as goal

pub returns-clause-goes : goal.returns-clause-goes
returns-clause-goes g c = run_goes c.args.disk c.args.block c.args.count _ (run_zeros c.args.count c.requires.few) (g.R.Shelf.meaning c.args.rack.now) (g.R.Shelf.meaning c.write.new.self) c.write.ensures.goes

pub returns-clause-ok : goal.returns-clause-ok
returns-clause-ok g c = run_gives c.args.disk c.args.block c.args.count _ (run_zeros c.args.count c.requires.few) (g.R.Shelf.meaning c.args.rack.now) (g.R.Shelf.meaning c.write.new.self) c.write.result c.write.ensures.ok

pub returns-clause-failing : goal.returns-clause-failing
returns-clause-failing g c = same_on _ (g.R.Shelf.meaning c.args.rack.now).disks (g.R.Shelf.meaning c.write.new.self).disks c.write.ensures.disks
