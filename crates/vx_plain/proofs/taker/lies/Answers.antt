-- `lies`: its result.
use Rattle.std.proofs.Common.{rules, ◌≡◌, ◌≤◌, ◌+◌, arith}
use Rattle.vx_model.specs.Content.{blocks_in}
use Rattle.vx_plain.specs.declared.small.TheConstants.{VOLUME_BLOCKS}
use Rattle.vx_plain.proofs.Taken.{lies-here}
use Rattle.vx_plain.proofs.taker.lies.Goals as goal

pub returns : goal.returns
returns c = let n = c.count_of-count.ensures.0 in let f = c.count_of-count.ensures.2 in let t = c.if-update-count.false in
    let is : c.args.update.now.vol ≡ 0 = search rules in let le : c.args.update.now.block + blocks_in c.args.update.now.bytes ≤ VOLUME_BLOCKS = omega (arith, t, n, f) in lies-here c.args.update.now is le
