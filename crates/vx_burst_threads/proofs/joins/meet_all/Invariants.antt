-- The loop of `meet_all` over `worker`: what stays true, and what falls.
use Rattle.std.proofs.Common.{length, ◌+◌, ◌≤◌, vec_capacity}
use Rattle.vx_turn.specs.Passing.{table_of}
use Rattle.vx_burst_threads.specs.Joining.{AllOf}
use Rattle.vx_burst_threads.proofs.Joining.{Loop}
use Rattle.vx_burst_threads.proofs.joins.meet_all.Given as goal

abbrev pub invariant-loop-worker : goal.invariant-loop-worker
invariant-loop-worker g l =
    Loop l.fn.pass l.fn.peers.items l.fn.workers.items l.workers.items l.fn.answers l.pass l.peers.items l.answers
    × AllOf (table_of l.turn) l.workers.items
    × (length l.fn.peers.items + length l.fn.workers.items ≤ vec_capacity l.peers)

abbrev pub decreases-loop-worker : goal.decreases-loop-worker
decreases-loop-worker g l = length l.workers.items
