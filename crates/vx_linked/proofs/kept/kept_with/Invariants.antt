-- The loop of `kept_with` over `l`: what stays true.
use Rattle.std.proofs.Common.{◌≡◌, take}
use Rattle.vx_effects.specs.LinkParts.{kept_over}
use Rattle.vx_linked.specs.Making.{kept_plain}
use Rattle.vx_linked.proofs.kept.kept_with.Given as goal

-- the links below k are put over
abbrev pub invariant-loop-l : goal.invariant-loop-l
invariant-loop-l l = l.kept ≡ kept_over (kept_plain l.link) (take l.l-index l.links)
