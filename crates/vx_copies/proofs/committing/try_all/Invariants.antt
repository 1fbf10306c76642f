-- The loop of `try_all` over `shelf`: what stays true, and what falls.
use Rattle.std.proofs.Common.{◌≡◌, ◌+◌, ◌≤◌, true, length}
use Rattle.vx_disk.specs.Burns.{MakesCalls}
use Rattle.vx_config.specs.Configs.{CanSpell, subdisk_count}
use Rattle.vx_copyio.specs.Labelling.{AreLarge}
use Rattle.vx_copyio.specs.Putting.{KeepsUp}
use Rattle.vx_copies.specs.Bodies.{is_wanted}
use Rattle.vx_copies.specs.Commits.{Remain, Underway}
use Rattle.vx_copies.specs.Marks.{good_count}
use Rattle.vx_copies.proofs.Lasting.{LastSoFar}
use Rattle.vx_copies.proofs.ManyTries.{Blamed}
use Rattle.vx_copies.proofs.committing.try_all.Given as goal

abbrev pub invariant-loop-shelf : goal.invariant-loop-shelf
invariant-loop-shelf g l = record {
  large : AreLarge (g.S.Shelf.meaning l.shelf);
  can : CanSpell l.config;
  short : subdisk_count l.config ≤ 1024;
  wanted : is_wanted (g.S.Shelf.meaning l.shelf).units (g.S.Shelf.meaning l.shelf).size l.config ≡ true;
  room : length l.room ≡ 65024;
  underway : Underway l.good l.initial.config l.config (g.S.Shelf.meaning l.initial.shelf) (g.S.Shelf.meaning l.shelf);
  remain : Remain l.initial.config l.config (g.S.Shelf.meaning l.initial.shelf) (g.S.Shelf.meaning l.shelf);
  few : l.config.serial + good_count l.config.disks ≤ l.initial.config.serial + 0 + good_count l.initial.config.disks;
  calls : l.config.serial ≡ l.initial.config.serial → MakesCalls 0 (g.S.Shelf.meaning l.initial.shelf) (g.S.Shelf.meaning l.shelf);
  up : KeepsUp (g.S.Shelf.meaning l.initial.shelf) (g.S.Shelf.meaning l.shelf);
  last : LastSoFar g.S.Shelf.meaning l.good l.initial.config l.config l.initial.shelf l.shelf l.device;
  device : Blamed l.good l.initial.config l.config (g.S.Shelf.meaning l.initial.shelf) (g.S.Shelf.meaning l.shelf) l.device;
}

abbrev pub decreases-loop-shelf : goal.decreases-loop-shelf
decreases-loop-shelf g l = good_count l.config.disks
