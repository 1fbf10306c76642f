-- `is_dirty`: what `dirty` asks.
use Rattle.std.proofs.Common.{arith}
use Rattle.vx_region_rows.proofs.drl.is_dirty.Goals as goal

pub dirty-requires : goal.dirty-requires
dirty-requires g c = record { inside = omega (arith, c.in-Ok.ensures.regions, c.has_region.ensures c.if-has_region.true) }
