-- The loop of `disks_fit` over `disk`: what stays true.
use Rattle.std.proofs.Common.{take}
use Rattle.std.specs.List.{AllByRecursion}
use Rattle.vx_config.specs.Table.{disk}
use Rattle.vx_config.proofs.fits.disks_fit.Given as goal

abbrev pub invariant-loop-disk : goal.invariant-loop-disk
invariant-loop-disk l = AllByRecursion disk.Fits (take l.disk-index l.disks)
