-- The loop of `blank_ring` over `chunk`: what stays true.
use Rattle.std.proofs.Common.{min, ◌*◌}
use Rattle.vx_disk.specs.Moves.{Moves, Run, Anything}
use Rattle.vx_ringio.specs.Reading.{ReadsZero}
use Rattle.vx_disk.specs.Spends.{Spends}
use Rattle.vx_ringio.proofs.blank.blank_ring.Given as goal

abbrev pub invariant-loop-chunk : goal.invariant-loop-chunk
invariant-loop-chunk g l = record {
  moves : Moves (Run l.unit 0 l.used) Anything (g.S.Shelf.meaning l.initial.shelf) (g.S.Shelf.meaning l.shelf);
  spends : Spends (g.S.Shelf.meaning l.initial.shelf) (g.S.Shelf.meaning l.shelf);
  zero : ReadsZero l.unit (min (16 * l.chunk) l.used) (g.S.Shelf.meaning l.shelf);
}
