-- The loop of `refuse_down` over `link`: what stays true.
use Rattle.std.proofs.Common.{◌≡◌, drop}
use Rattle.vx_history.specs.Admission.{first_down}
use Rattle.vx_policy.proofs.decision.refuse_down.Given as goal

-- the links that were passed are not down
abbrev pub invariant-loop-link : goal.invariant-loop-link
invariant-loop-link l = first_down (drop l.link-index l.links) ≡ first_down l.links
