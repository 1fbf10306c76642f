-- The loop of `refuse_first_full` over `at`: what stays true.
use Rattle.std.proofs.Common.{◌≡◌, drop, zip}
use Rattle.vx_history.specs.Admission.{first_full}
use Rattle.vx_policy.proofs.decision.refuse_first_full.Given as goal

-- none of the links that were passed refuses
abbrev pub invariant-loop-at : goal.invariant-loop-at
invariant-loop-at l =
    first_full l.facts.need l.facts.room (zip (drop l.at l.links) (drop l.at l.facts.used))
    ≡ first_full l.facts.need l.facts.room (zip l.links l.facts.used)
