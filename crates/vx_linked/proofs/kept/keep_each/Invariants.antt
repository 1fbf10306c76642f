-- The loop of `keep_each` over `l`: what stays true.
use Rattle.std.proofs.Common.{◌≡◌, take}
use Rattle.vx_linked.specs.Making.{kept_each}
use Rattle.vx_linked.proofs.kept.keep_each.Given as goal

-- the links below k are kept
abbrev pub invariant-loop-l : goal.invariant-loop-l
invariant-loop-l l = l.kept ≡ kept_each (take l.l-index l.links)
