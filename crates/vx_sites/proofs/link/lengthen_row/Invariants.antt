-- The loop of `lengthen_row` over `links`: what stays true, and what falls.
use Rattle.std.proofs.Common.{◌≡◌, ◌+◌, ◌-◌, length}
use Rattle.vx_sites.specs.Shapes.{row_of}
use Rattle.vx_sites.proofs.link.lengthen_row.Given as goal

abbrev pub invariant-loop-links : goal.invariant-loop-links
invariant-loop-links l = row_of l.links.items ≡ row_of l.initial.links.items

abbrev pub decreases-loop-links : goal.decreases-loop-links
decreases-loop-links l = l.to + 1 - length l.links.items
