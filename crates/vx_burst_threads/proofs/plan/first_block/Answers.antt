-- `first_block`: what `copy_from_slice` asks.
use Rattle.std.proofs.Common.{◌≡◌, ◌<◌, ◌%◌, length, sym, subst}
use Rattle.vx_burst_threads.proofs.Making.{front_long}
use Rattle.vx_burst_threads.proofs.plan.first_block.Goals as goal

pub slice_bounds-copy_from_slice-end-2 : goal.slice_bounds-copy_from_slice-end-2
slice_bounds-copy_from_slice-end-2 c = let e = c.as_bytes.ensures in
    front_long c.as_bytes.result.now (subst (λ l. 0 < length l) (sym e.bytes) e.some) (subst (λ l. length l % 512 ≡ 0) (sym e.bytes) e.whole)

pub copy_from_slice-requires : goal.copy_from_slice-requires
copy_from_slice-requires c = let e = c.as_bytes.ensures in
    front_long c.as_bytes.result.now (subst (λ l. 0 < length l) (sym e.bytes) e.some) (subst (λ l. length l % 512 ≡ 0) (sym e.bytes) e.whole)
