-- `is_dirty`: what `dirty` asks.
use Rattle.std.proofs.Common.{arith}
use Rattle.vx_region_rows.proofs.mirrors.is_dirty.Goals as goal

pub dirty-requires : goal.dirty-requires
dirty-requires c = record { inside = let it = c.requires.fits.drl c.in-Some.drl c.in-Some.is in omega (arith, it.regions, c.has_region.ensures c.if-not-has_region.false) }
