-- The loop of `filled` over `state`: what stays true.
use Rattle.std.proofs.Common.{◌≡◌, take}
use Rattle.vx_report.proofs.group_room.filled.Given as goal

abbrev pub invariant-loop-state : goal.invariant-loop-state
invariant-loop-state l = l.room ≡ take l.state-index l.states
