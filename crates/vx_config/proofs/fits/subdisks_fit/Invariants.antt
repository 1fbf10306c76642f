-- The loop of `subdisks_fit` over `subdisk`: what stays true.
use Rattle.std.proofs.Common.{take}
use Rattle.std.specs.List.{AllByRecursion}
use Rattle.vx_config.specs.Table.{subdisk}
use Rattle.vx_config.proofs.fits.subdisks_fit.Given as goal

abbrev pub invariant-loop-subdisk : goal.invariant-loop-subdisk
invariant-loop-subdisk l = AllByRecursion subdisk.Fits (take l.subdisk-index l.subdisks)
