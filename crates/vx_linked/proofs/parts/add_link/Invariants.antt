-- The loop of `add_link` over `k`: what stays true.
use Rattle.std.proofs.Common.{◌≡◌, length, take}
use Rattle.vx_linked.proofs.parts.add_link.Given as goal

-- the links below k are in the room
abbrev pub invariant-loop-k : goal.invariant-loop-k
invariant-loop-k l = (l.count ≡ length l.site.links) × (l.room ≡ take l.k l.site.links)
