-- The loop of `set_writers` over `thread`: what stays true.
use Rattle.std.proofs.Common.{◌≤◌, vec_capacity}
use Rattle.vx_turn.specs.Passing.{table_of, first_engine}
use Rattle.vx_burst.proofs.Settings.{Writing}
use Rattle.vx_burst.proofs.setting.set_writers.Given as goal

abbrev pub invariant-loop-thread : goal.invariant-loop-thread
invariant-loop-thread g l =
    Writing g.P.Peer.stand (table_of l.turn) (g.E.Engine.state (first_engine l.turn)) l.callers l.plan l.threads l.thread l.rooms.items l.workers.items l.passes
    × (vec_capacity l.fn.workers ≤ vec_capacity l.workers)
