-- The loop of `search_all` over `disk`: what stays true.
use Rattle.std.proofs.Common.{◌≡◌, IsTrue, length}
use Rattle.vx_disk.specs.Causes.{OnDisks}
use Rattle.vx_disk.specs.Disks.{Untouched}
use Rattle.vx_disk.specs.Shelf.{Goes, Nothing}
use Rattle.vx_copies.specs.Searching.{Searched}
use Rattle.vx_copies.proofs.search.search_all.Given as goal

abbrev pub invariant-loop-disk : goal.invariant-loop-disk
invariant-loop-disk g l = record {
  found : Searched l.disk (g.S.Shelf.meaning l.initial.shelf) (g.S.Shelf.meaning l.shelf) l.found;
  goes : Goes Nothing (g.S.Shelf.meaning l.initial.shelf) (g.S.Shelf.meaning l.shelf);
  down : (g.S.Shelf.meaning l.shelf).down ≡ (g.S.Shelf.meaning l.initial.shelf).down;
  disks : OnDisks (g.S.Shelf.meaning l.initial.shelf).disks (g.S.Shelf.meaning l.shelf).disks Untouched;
  up : IsTrue (g.S.Shelf.meaning l.shelf).down → ⊥;
  room : length l.room ≡ 65024;
}
