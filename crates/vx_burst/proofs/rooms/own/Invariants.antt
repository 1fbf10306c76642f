-- The loop of `own` over `k`: what stays true.
use Rattle.std.proofs.Common.{◌≡◌, ◌≤◌, take}
use Rattle.vx_burst_threads.specs.Planning.{own_count}
use Rattle.vx_burst.proofs.rooms.own.Given as goal

abbrev pub invariant-loop-k : goal.invariant-loop-k
invariant-loop-k l = (l.count ≡ own_count l.thread (take l.k l.plan)) × (l.count ≤ l.k)
