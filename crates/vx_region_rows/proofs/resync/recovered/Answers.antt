-- `recovered`: what `recover` asks.
use Rattle.std.proofs.Common.{arith}
use Rattle.vx_region_rows.proofs.resync.recovered.Goals as goal

pub recover-requires-clause-some : goal.recover-requires-clause-some
recover-requires-clause-some g c = record { plex = 0; is_on = c.is_ready.ensures.first c.if-is_ready.true }

pub recover-requires-clause-reach : goal.recover-requires-clause-reach
recover-requires-clause-reach g c = omega (arith, c.in-Ok.ensures.loaded.regions)
