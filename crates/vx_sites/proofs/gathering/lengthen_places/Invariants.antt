-- The loop of `lengthen_places` over `places`: what stays true, and what falls.
use Rattle.std.proofs.Common.{◌≡◌, ◌+◌, ◌-◌, length}
use Rattle.vx_sites.specs.Shapes.{places_of}
use Rattle.vx_sites.proofs.gathering.lengthen_places.Given as goal

abbrev pub invariant-loop-places : goal.invariant-loop-places
invariant-loop-places l = places_of l.places.items ≡ places_of l.initial.places.items

abbrev pub decreases-loop-places : goal.decreases-loop-places
decreases-loop-places l = l.site + 1 - length l.places.items
