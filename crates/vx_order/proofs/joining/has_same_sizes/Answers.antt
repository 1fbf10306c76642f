-- `has_same_sizes`: its result.
use Rattle.std.proofs.Common.{◌∙◌, sym, arith}
use Rattle.vx_order.specs.Joining.{data_sizes}
use Rattle.vx_order.proofs.SizeLemmas.{all_same, one_differs, few_sizes}
use Rattle.vx_order.proofs.joining.has_same_sizes.Goals as goal

pub returns-then-not-is_same_size : goal.returns-then-not-is_same_size
returns-then-not-is_same_size c =
    sym (one_differs (data_sizes c.args.first.now) (data_sizes c.args.second.now) c.loop-place.place
    (rw (sym c.size_at.ensures, sym c.size_at-in-loop-place.ensures) (sym c.is_same_size.ensures ∙ c.if-not-is_same_size.true)))

pub returns : goal.returns
returns c =
    let few = few_sizes c.args.first.now in
    sym (all_same (data_sizes c.args.first.now) (data_sizes c.args.second.now) (λ k below. c.loop-place.invariant k (omega (arith, below, few, c.loop-place-test.false))))
