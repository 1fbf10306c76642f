-- The loop of `set_drainers` over `peer`: what stays true, and what falls.
use Rattle.std.proofs.Common.{◌≤◌, length, vec_capacity}
use Rattle.vx_turn.specs.Passing.{table_of, first_engine}
use Rattle.vx_burst.proofs.Settings.{Linking}
use Rattle.vx_burst.proofs.setting.set_drainers.Given as goal

abbrev pub invariant-loop-peer : goal.invariant-loop-peer
invariant-loop-peer g l =
    Linking g.P.Peer.stand (table_of l.turn) (g.E.Engine.state (first_engine l.turn)) l.callers l.plan l.fn.peers.items l.peers.items (length l.fn.workers.items) l.workers.items l.passes
    × (vec_capacity l.fn.workers ≤ vec_capacity l.workers)
    × (vec_capacity l.fn.peers ≤ vec_capacity l.peers)

abbrev pub decreases-loop-peer : goal.decreases-loop-peer
decreases-loop-peer g l = length l.peers.items
