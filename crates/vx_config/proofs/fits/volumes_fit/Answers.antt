-- `volumes_fit`: its result; what stays true in its loop over `volume`.
use Rattle.std.proofs.Common.{subst}
use Rattle.vx_config.specs.Table.{volume}
use Rattle.vx_config.specs.declared.entry.VolumeEntry.{VolumeEntry}
use Rattle.vx_config.proofs.FitLemmas.{fit-more, fit-all}
use Rattle.vx_config.proofs.fits.volumes_fit.Goals as goal

pub loop-volume-preserved : goal.loop-volume-preserved
loop-volume-preserved c = fit-more volume c.args.volumes.now c.loop-volume.volume-index _ c.loop-volume-test.true c.loop-volume.invariant (subst (λ (x : VolumeEntry). volume.Fits x) c.volume-item.is c.volume_fits.ensures)

pub returns : goal.returns
returns c = fit-all volume c.args.volumes.now c.loop-volume.volume-index c.loop-volume-test.false c.loop-volume.invariant
