-- The loop of `flush_volumes` over `vol`: what stays true.
use Rattle.std.proofs.Common.{ℕ, ◌<◌}
use Rattle.vx_disk.specs.Causes.{Works}
use Rattle.vx_disk.specs.Spends.{Spends}
use Rattle.vx_rvg.specs.Views.{unit_of}
use Rattle.vx_rvg.proofs.ApplyFlush.{FlushedTo}
use Rattle.vx_rvg.proofs.apply.flush_volumes.Given as goal

abbrev pub invariant-loop-vol : goal.invariant-loop-vol
invariant-loop-vol g l = FlushedTo l.core.units.vols l.vol (g.S.Shelf.meaning l.initial.shelf) (g.S.Shelf.meaning l.shelf) × Spends (g.S.Shelf.meaning l.initial.shelf) (g.S.Shelf.meaning l.shelf) × ((v : ℕ) → v < l.vol → Works (g.S.Shelf.meaning l.initial.shelf).disks (unit_of l.core.units.vols v))
