-- The loop of `bring` over `n`: what stays true.
use Rattle.std.proofs.Common.{◌≤◌}
use Rattle.vx_disk.specs.Spends.{Spends}
use Rattle.vx_rvg.proofs.ApplyAll.{BroughtTo}
use Rattle.vx_rvg.proofs.apply.bring.Given as goal

abbrev pub invariant-loop-n : goal.invariant-loop-n
invariant-loop-n g l = BroughtTo l.core l.n (g.S.Shelf.meaning l.initial.shelf) (g.S.Shelf.meaning l.shelf) l.count × (l.n ≤ l.to) × Spends (g.S.Shelf.meaning l.initial.shelf) (g.S.Shelf.meaning l.shelf)
