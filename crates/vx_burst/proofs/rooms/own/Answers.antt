-- `own`: its result; what stays true in its loop over `k`.
use Rattle.std.proofs.Common.{rules, ◌≡◌, ◌==◌, slice_get, Some, refl, ◌∙◌, arith}
use Rattle.std.proofs.lemmas.Option.{slice_get_read}
use Rattle.vx_burst.proofs.Roomy.{own-next, own-all, one-few}
use Rattle.vx_burst.proofs.rooms.own.Goals as goal

pub loop-k-preserved : goal.loop-k-preserved
loop-k-preserved c =
    let at : slice_get c.args.plan.now c.loop-k.k ≡ Some c.in-Some.planned.now = slice_get_read c.args.plan.now _ c.loop-k.k c.in-Some.planned.now refl (search rules) (search rules) in
    let few = one-few (c.in-Some.planned.now.thread == c.args.thread) in let e = c.is_own-count.ensures in
    (own-next c.args.thread c.args.plan.now c.loop-k.k c.loop-k.count c.is_own-count.result c.in-Some.planned.now at c.is_own-count.ensures c.loop-k.invariant.0, (let z = c.loop-k.invariant.1 in omega (arith, z, few, e)))

pub returns : goal.returns
returns c = c.loop-k.invariant.0 ∙ own-all c.args.thread c.args.plan.now c.loop-k.k (search rules)
