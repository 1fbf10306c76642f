-- The loop of `locate` over `subdisk`: what stays true.
use Rattle.std.proofs.Common.{◌≡◌, ◌+◌, ◌<◌, ℕ, drop}
use Rattle.std.specs.Prelude.{sum_by}
use Rattle.vx_layout.specs.Places.{subdisk_blocks, located}
use Rattle.vx_layout.proofs.spot.locate.Given as goal

abbrev pub invariant-loop-subdisk : goal.invariant-loop-subdisk
invariant-loop-subdisk l = ((j : ℕ) → located l.subdisks (l.block + j) ≡ located (drop l.subdisk-index l.subdisks) (l.left + j)) × (l.left < sum_by subdisk_blocks (drop l.subdisk-index l.subdisks))
