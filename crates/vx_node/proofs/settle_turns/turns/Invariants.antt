-- The loop of `turns` over `past`: what stays true.
use Rattle.std.proofs.Common.{◌≡◌}
use Rattle.vx_history.specs.Doubts.{Doubted}
use Rattle.vx_node.specs.Settling.{SettlesFor}
use Rattle.vx_yard.specs.Yards.{IsTold, in_files}
use Rattle.vx_node.proofs.SettleTurns.{TurnsFor}
use Rattle.vx_node.proofs.settle_turns.turns.Given as goal

abbrev pub invariant-loop-past : goal.invariant-loop-past
invariant-loop-past g l =
    ((d : Doubted) → SettlesFor l.fn.first l.fn.second l.fn.here l.fn.there d l.fn.yard → TurnsFor l.fn.first l.fn.second l.fn.here l.fn.there d l.fn.most l.past l.fn.yard l.yard) × (in_files l.yard ≡ in_files l.fn.yard) × (IsTold l.yard → IsTold l.fn.yard)
