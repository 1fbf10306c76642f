-- `plexes_fit`: its result; what stays true in its loop over `plex`.
use Rattle.std.proofs.Common.{subst}
use Rattle.vx_config.specs.Table.{plex}
use Rattle.vx_config.specs.declared.entry.PlexEntry.{PlexEntry}
use Rattle.vx_config.proofs.FitLemmas.{fit-more, fit-all}
use Rattle.vx_config.proofs.fits.plexes_fit.Goals as goal

pub loop-plex-preserved : goal.loop-plex-preserved
loop-plex-preserved c = fit-more plex c.args.plexes.now c.loop-plex.plex-index _ c.loop-plex-test.true c.loop-plex.invariant (subst (λ (x : PlexEntry). plex.Fits x) c.plex-item.is c.plex_fits.ensures)

pub returns : goal.returns
returns c = fit-all plex c.args.plexes.now c.loop-plex.plex-index c.loop-plex-test.false c.loop-plex.invariant
