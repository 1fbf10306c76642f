-- The loop of `lose_each` over `to`: what stays true.
use Rattle.std.proofs.Common.{◌≡◌, ℕ, length}
use Rattle.vx_history.specs.World.{Link}
use Rattle.vx_history.specs.Events.{lost_touch}
use Rattle.vx_sites.specs.Shapes.{row_of}
use Rattle.vx_sites.proofs.Tables.{changed_below}
use Rattle.vx_sites.proofs.row.lose_each.Given as goal

abbrev pub invariant-loop-to : goal.invariant-loop-to
invariant-loop-to l = (row_of l.links.items ≡ changed_below (λ (k : ℕ) (link : Link). lost_touch link) l.to (row_of l.initial.links.items)) × (length l.links.items ≡ length l.initial.links.items)
