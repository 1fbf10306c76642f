-- `count_blocks`: what stays true in its loop over `write`.
use Rattle.std.proofs.Common.{◌≡◌, ℕ, List, length, ap, arith}
use Rattle.vx_sites.proofs.Each.{log_blocks_more}
use Rattle.vx_sites.proofs.row.count_blocks.Goals as goal

pub loop-write-preserved : goal.loop-write-preserved
loop-write-preserved c =
    let more = log_blocks_more c.args.writes.now c.loop-write.write-index c.write-item.result c.loop-write-test.true c.write-item.is in
    let long : length c.as_bytes.result.now ≡ length c.write-item.result.bytes = ap (λ (b : List ℕ). length b) c.as_bytes.ensures.bytes in
    omega (arith, more, c.min-count.ensures, c.loop-write.invariant, long)
