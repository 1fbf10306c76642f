-- `recovered_all`: what `recover` asks.
use Rattle.vx_region_rows.proofs.resync.recovered_all.Goals as goal

pub recover-requires-clause-some : goal.recover-requires-clause-some
recover-requires-clause-some g c = record { plex = 0; is_on = c.is_ready.ensures.first c.if-is_ready.true }
