-- The loop of `volumes_fit` over `volume`: what stays true.
use Rattle.std.proofs.Common.{take}
use Rattle.std.specs.List.{AllByRecursion}
use Rattle.vx_config.specs.Table.{volume}
use Rattle.vx_config.proofs.fits.volumes_fit.Given as goal

abbrev pub invariant-loop-volume : goal.invariant-loop-volume
invariant-loop-volume l = AllByRecursion volume.Fits (take l.volume-index l.volumes)
