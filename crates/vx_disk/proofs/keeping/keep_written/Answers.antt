-- `keep_written`: clause kept.
use Rattle.std.proofs.Common.{false, length, get_or, arith}
use Rattle.vx_disk.specs.Blocks.{block_at}
use Rattle.vx_disk.proofs.Same.{same_blocks, kept_all}
use Rattle.vx_disk.proofs.keeping.keep_written.Goals as goal

pub returns-else-number-runs-clause-kept : goal.returns-else-number-runs-clause-kept
returns-else-number-runs-clause-kept c =
    let loose = c.args.loose.now in
    same_blocks (length loose) c.keep_loose.new.stable c.args.latest.now (omega (arith, c.keep_loose.auto.stable, c.requires.stable)) (omega (arith, c.requires.latest))
    (λ b. kept_all (get_or loose b false) (block_at c.args.latest.now b) (block_at c.args.stable.now b) (block_at c.keep_loose.new.stable b) (c.requires.clean b) (c.keep_loose.ensures.kept b))
