-- `keep_block`: its result.
use Rattle.std.proofs.Common.{◌≡◌, ◌+◌, ◌-◌, ◌*◌, ℕ, take, drop, ap, ◌∙◌, arith}
use Rattle.vx_disk.specs.Blocks.{over}
use Rattle.vx_disk.proofs.keeping.keep_block.Goals as goal

pub returns : goal.returns
returns c =
    let s = 512 * c.args.b in
    let k : s + 512 - s ≡ 512 = omega arith in
    c.copy_over.ensures ∙ ap (λ (n : ℕ). over c.args.stable.now s (take n (drop s c.args.latest.now))) k
