-- The loop of `deliver_sent` over `done`: what stays true.
use Rattle.std.proofs.Common.{◌≡◌, ◌≤◌, length}
use Rattle.vx_history.specs.Doubts.{Doubted}
use Rattle.vx_node.specs.Settling.{OnFor, SettlesFor}
use Rattle.vx_yard.specs.Yards.{IsTold, in_files}
use Rattle.vx_node.proofs.Handing.{handed_to}
use Rattle.vx_node.proofs.settle_packets.deliver_sent.Given as goal

abbrev pub invariant-loop-done : goal.invariant-loop-done
invariant-loop-done g l =
    ((d : Doubted) → SettlesFor l.fn.first l.fn.second l.fn.here l.fn.there d l.fn.yard → l.fn.before ≤ length d.world.packets
    → OnFor l.fn.first l.fn.second l.fn.here l.fn.there d (handed_to l.fn.here l.fn.there l.fn.before l.done d.world.packets) l.fn.yard l.yard)
    × (in_files l.yard ≡ in_files l.fn.yard) × (IsTold l.yard → IsTold l.fn.yard)
