-- `has_missed`: what `missed` asks.
use Rattle.std.proofs.Common.{arith}
use Rattle.vx_region_rows.proofs.fmr.has_missed.Goals as goal

pub missed-requires-clause-exists : goal.missed-requires-clause-exists
missed-requires-clause-exists g c = omega (arith, c.in-Ok.ensures.plexes, c.plexes_of.ensures, c.from.ensures, c.if-from-plexes_of.true)

pub missed-requires-clause-inside : goal.missed-requires-clause-inside
missed-requires-clause-inside g c = omega (arith, c.in-Ok.ensures.regions, c.has_region.ensures c.if-has_region.true)
