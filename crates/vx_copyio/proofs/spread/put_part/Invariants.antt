-- The loop of `put_part` over `disk`: what stays true.
use Rattle.std.proofs.Common.{◌*◌}
use Rattle.vx_disk.specs.Burns.{MakesCalls}
use Rattle.vx_disk.specs.Disks.{count_below}
use Rattle.vx_copyio.specs.Putting.{AllNew, Copied, IsMember, KeepsUp, part_of}
use Rattle.vx_copyio.proofs.spread.put_part.Given as goal

abbrev pub invariant-loop-disk : goal.invariant-loop-disk
invariant-loop-disk g l = record {
  copied : Copied (IsMember (part_of l.set l.good l.which) l.disk) l.header l.body (g.S.Shelf.meaning l.initial.shelf) (g.S.Shelf.meaning l.shelf);
  calls : MakesCalls (4 * count_below (part_of l.set l.good l.which) l.disk) (g.S.Shelf.meaning l.initial.shelf) (g.S.Shelf.meaning l.shelf);
  up : KeepsUp (g.S.Shelf.meaning l.initial.shelf) (g.S.Shelf.meaning l.shelf);
  all : AllNew (IsMember (part_of l.set l.good l.which) l.disk) l.header l.body (g.S.Shelf.meaning l.initial.shelf) (g.S.Shelf.meaning l.shelf);
}
