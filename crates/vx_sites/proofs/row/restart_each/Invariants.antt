-- The loop of `restart_each` over `to`: what stays true.
use Rattle.std.proofs.Common.{◌≡◌, ℕ, length}
use Rattle.vx_history.specs.World.{Link, Node}
use Rattle.vx_history.specs.Events.{restarted_link}
use Rattle.vx_sites.specs.Shapes.{row_of}
use Rattle.vx_sites.proofs.Tables.{changed_below}
use Rattle.vx_sites.proofs.row.restart_each.Given as goal

abbrev pub invariant-loop-to : goal.invariant-loop-to
invariant-loop-to l = ((n : Node) → row_of l.links.items ≡ changed_below (λ (k : ℕ) (link : Link). restarted_link n k link) l.to (row_of l.initial.links.items)) × (length l.links.items ≡ length l.initial.links.items)
