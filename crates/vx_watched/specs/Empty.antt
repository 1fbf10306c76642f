-- A shelf without units.
use Rattle.std.specs.Prelude.{false, None}
use Rattle.vx_disk.specs.Shelf.{Meaning, Nothing}

-- It has no unit, tells nothing and is up.
abbrev pub no_shelf : Meaning
no_shelf = record {
  units = 0;
  size = λ u. 0;
  tells = false;
  reads = Nothing;
  leaves = Nothing;
  now = λ i. ⊥;
  moment = 0;
  left_since = λ t i. ⊥;
  faults = λ u. 0;
  disk_faults = λ d. 0;
  down = false;
  armed = false;
  disks = None;
}
