-- `calls_are_safe`: its result.
use Rattle.vx_ringlog.proofs.Calls.{call_safe}
use Rattle.vx_ringlog.proofs.Passed.{none_passed_over}
use Rattle.vx_ringlog.proofs.Rest.{rest_is_still, nothing_loose}
use Rattle.vx_ringlog.proofs.calls_are_safe.Goals as goal

pub returns : goal.returns
returns c = record { calls = call_safe; passed = none_passed_over; rest = rest_is_still; nothing_loose = nothing_loose }
