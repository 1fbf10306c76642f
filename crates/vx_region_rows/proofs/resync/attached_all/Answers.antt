-- `attached_all`: what `attach` asks.
use Rattle.std.proofs.Common.{Bool, ap}
use Rattle.std.specs.Prelude.{◌&&◌, ◌==◌, not}
use Rattle.vx_region_rows.proofs.resync.attached_all.Goals as goal

pub attach-requires-clause-some : goal.attach-requires-clause-some
attach-requires-clause-some g c = record { plex = 0; can = ap (λ (b : Bool). b && not (1 == 0)) (c.is_ready.ensures.first c.if-is_ready.true) }
