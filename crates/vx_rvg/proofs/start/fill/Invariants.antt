-- The loop of `fill` over `before`: what stays true.
use Rattle.std.proofs.Common.{◌+◌, ◌-◌}
use Rattle.vx_disk.specs.Spends.{Spends}
use Rattle.vx_rvg.proofs.StartFill.{Filling}
use Rattle.vx_rvg.proofs.start.fill.Given as goal

abbrev pub invariant-loop-before : goal.invariant-loop-before
invariant-loop-before g l = Filling l.srl l.units.vols (g.S.Shelf.meaning l.fn.shelf) (g.S.Shelf.meaning l.shelf) (l.before + 1 - l.srl.header.low) l.srl.ring l.pending × Spends (g.S.Shelf.meaning l.fn.shelf) (g.S.Shelf.meaning l.shelf)
