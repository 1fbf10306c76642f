-- The loop of `write_fronts` over `k`: what stays true.
use Rattle.std.proofs.Common.{◌-◌}
use Rattle.vx_disk.specs.Burns.{FallsShort, MakesCalls}
use Rattle.vx_disk.specs.Spends.{Spends}
use Rattle.vx_srl.proofs.FrontLaws.{Written}
use Rattle.vx_srl.proofs.seal.write_fronts.Given as goal

abbrev pub invariant-loop-k : goal.invariant-loop-k
invariant-loop-k g l =
    Written l.unit l.ring l.records.items l.from l.k (g.S.Shelf.meaning l.initial.shelf) (g.S.Shelf.meaning l.shelf)
    × MakesCalls (l.k - l.from) (g.S.Shelf.meaning l.initial.shelf) (g.S.Shelf.meaning l.shelf)
    × FallsShort (l.k - l.from) (g.S.Shelf.meaning l.initial.shelf) (g.S.Shelf.meaning l.shelf)
    × Spends (g.S.Shelf.meaning l.initial.shelf) (g.S.Shelf.meaning l.shelf)
