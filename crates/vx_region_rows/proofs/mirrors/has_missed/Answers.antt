-- `has_missed`: what `missed` asks.
use Rattle.std.proofs.Common.{arith}
use Rattle.vx_region_rows.proofs.mirrors.has_missed.Goals as goal

pub missed-requires-clause-exists : goal.missed-requires-clause-exists
missed-requires-clause-exists c = let it = c.requires.fits.fmr c.in-Some.fmr c.in-Some.is in omega (arith, it.plexes, c.plex_count.ensures, c.if-plex-plex_count.false)

pub missed-requires-clause-inside : goal.missed-requires-clause-inside
missed-requires-clause-inside c = let it = c.requires.fits.fmr c.in-Some.fmr c.in-Some.is in omega (arith, it.regions, c.has_region.ensures c.if-not-has_region.false)
