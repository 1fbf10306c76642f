-- The loop of `seek` over `back`: what stays true.
use Rattle.std.proofs.Common.{◌≡◌, ◌≤◌, ◌-◌, length, take}
use Rattle.vx_sites.specs.Messages.{packets_in}
use Rattle.vx_sites.proofs.dispatches.seek.Given as goal

abbrev pub invariant-loop-back : goal.invariant-loop-back
invariant-loop-back l = (l.end ≡ length (packets_in (take (length l.sent - l.back) l.sent))) × (l.number ≤ l.end)
