-- The loop of `plexes_fit` over `plex`: what stays true.
use Rattle.std.proofs.Common.{take}
use Rattle.std.specs.List.{AllByRecursion}
use Rattle.vx_config.specs.Table.{plex}
use Rattle.vx_config.proofs.fits.plexes_fit.Given as goal

abbrev pub invariant-loop-plex : goal.invariant-loop-plex
invariant-loop-plex l = AllByRecursion plex.Fits (take l.plex-index l.plexes)
