-- The loop of `lengthen_rows` over `alloc`: what stays true, and what falls.
use Rattle.std.proofs.Common.{◌≡◌, ◌+◌, ◌-◌, length}
use Rattle.vx_sites.specs.Shapes.{links_of}
use Rattle.vx_sites.proofs.link.lengthen_rows.Given as goal

abbrev pub invariant-loop-alloc : goal.invariant-loop-alloc
invariant-loop-alloc l = links_of l.rows.items ≡ links_of l.initial.rows.items

abbrev pub decreases-loop-alloc : goal.decreases-loop-alloc
decreases-loop-alloc l = l.from + 1 - length l.rows.items
