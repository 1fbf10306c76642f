-- `is_same`: its result.
use Rattle.std.proofs.Common.{◌≡◌, ◌∙◌, ap, ◌+◌, ◌-◌, ◌*◌, arith, take, drop}
use Rattle.std.specs.Prelude.{nat_eq}
use lib.Pointwise.{pointwise}
use Rattle.vx_grouped.proofs.keeping.is_same.Goals as goal

pub returns : goal.returns
returns c =
    let wide : 512 * c.args.block + 512 - 512 * c.args.block ≡ 512 = omega (arith) in
    c.eq.ensures ∙ ap (λ n. pointwise nat_eq (take n (drop (512 * c.args.block) c.args.first.now)) (take n (drop (512 * c.args.block) c.args.second.now))) wide
