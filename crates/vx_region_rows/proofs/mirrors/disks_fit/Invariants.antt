-- The loop of `disks_fit` over `k`: what stays true.
use Rattle.std.proofs.Common.{◌≡◌, ℕ, ◌<◌}
use Rattle.vx_layout.specs.Places.{disk_blocks}
use Rattle.vx_region_rows.proofs.mirrors.disks_fit.Given as goal

abbrev pub invariant-loop-k : goal.invariant-loop-k
invariant-loop-k g l = (u : ℕ) → u < l.k → (u < (g.S.Shelf.meaning l.shelf).units) × ((g.S.Shelf.meaning l.shelf).size u ≡ disk_blocks l.disks u)
