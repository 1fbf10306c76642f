-- The link that was read is the first of those that are left.
use Rattle.std.proofs.Common.{◌∙◌, sym, arith}
use Rattle.vx_policy.proofs.Rest.{full-step, full-here}
use Rattle.vx_policy.proofs.decision.refuse_first_full.Goals as goal

pub returns-then-is_some : goal.returns-then-is_some
returns-then-is_some c =
    full-here _ _ _ _ c.refuse_full-no.ensures (sym c.is_some.ensures ∙ c.if-is_some.true)
    (sym c.loop-at.invariant ∙ full-step _ _ _ _ _ _ _ c.loop-at-test.true (omega (arith, c.requires.few, c.loop-at-test.true, c.type_inv.facts)))
