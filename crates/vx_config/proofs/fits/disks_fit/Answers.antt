-- `disks_fit`: its result; what stays true in its loop over `disk`.
use Rattle.vx_config.specs.Table.{disk}
use Rattle.vx_config.proofs.FitLemmas.{fit-more, fit-all}
use Rattle.vx_config.proofs.fits.disks_fit.Goals as goal

pub loop-disk-preserved : goal.loop-disk-preserved
loop-disk-preserved c = fit-more disk c.args.disks.now c.loop-disk.disk-index _ c.loop-disk-test.true c.loop-disk.invariant c.disk_fits.ensures

pub returns : goal.returns
returns c = fit-all disk c.args.disks.now c.loop-disk.disk-index c.loop-disk-test.false c.loop-disk.invariant
