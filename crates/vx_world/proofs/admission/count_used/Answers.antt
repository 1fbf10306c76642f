-- `count_used`: what stays true in its loop over `at`.
use Rattle.std.proofs.Common.{◌∙◌, arith}
use Rattle.std.proofs.lemmas.List.{length-set}
use Rattle.vx_sites.specs.Shapes.{node_of}
use Rattle.vx_world.proofs.Admitting.{counted_more, counted_as}
use Rattle.vx_world.proofs.admission.count_used.Goals as goal

pub loop-at-preserved : goal.loop-at-preserved
loop-at-preserved c = (
  counted_more (node_of c.args.node.now).log c.args.links.now c.loop-at.at c.loop-at.used c.used_above.result c.loop-at.invariant.0
      (omega (arith, c.loop-at.invariant.1, c.loop-at-test.true, c.requires.few))
      (λ d. counted_as (node_of c.args.node.now).log c.deref.result.now c.args.links.now c.loop-at.at c.used_above.result d _ c.loop-at-test.true
      c.deref.ensures.value c.used_above.ensures),
  length-set c.loop-at.used c.loop-at.at c.used_above.result ∙ c.loop-at.invariant.1,
)
