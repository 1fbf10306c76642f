-- The loop of `change_each` over `to`: what stays true.
use Rattle.std.proofs.Common.{◌≡◌, length}
use Rattle.vx_history.specs.World.{no_regions}
use Rattle.vx_history.specs.Events.{link_after}
use Rattle.vx_sites.specs.Shapes.{row_of, node_of, with_map}
use Rattle.vx_sites.proofs.Tables.{changed_below}
use Rattle.vx_sites.proofs.row.change_each.Given as goal

abbrev pub invariant-loop-to : goal.invariant-loop-to
invariant-loop-to l = (row_of l.links.items ≡ changed_below (λ k link. with_map no_regions (link_after (node_of l.node) l.write k link)) l.to (row_of l.initial.links.items)) × (length l.links.items ≡ length l.initial.links.items)
