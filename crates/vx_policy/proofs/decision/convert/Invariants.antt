-- The loop of `convert` over `back`: what stays true.
use Rattle.std.proofs.Common.{◌≡◌, ◌-◌, ◌<◌, ◌^◌, drop, zip, length}
use Rattle.vx_history.specs.Admission.{changes}
use Rattle.vx_policy.specs.Verdicts.{bits_for, goes_stale, goes_dcm}
use Rattle.vx_policy.proofs.decision.convert.Given as goal

-- the sets of the last links
abbrev pub invariant-loop-back : goal.invariant-loop-back
invariant-loop-back l =
    record {
      stale : l.stale ≡ bits_for goes_stale (changes l.facts.need l.facts.room (zip (drop (length l.links - l.back) l.links) (drop (length l.links - l.back) l.facts.used)));
      dcm : l.dcm ≡ bits_for goes_dcm (changes l.facts.need l.facts.room (zip (drop (length l.links - l.back) l.links) (drop (length l.links - l.back) l.facts.used)));
      few_stale : l.stale < 2 ^ l.back;
      few_dcm : l.dcm < 2 ^ l.back;
    }
