-- A shelf as one that tells nothing of its contents.
use Rattle.std.specs.Prelude.{◌≡◌, true, false}
use Rattle.vx_disk.specs.Shelf.{Lawful, Meaning, Nothing}

abbrev pub untold : Meaning → Meaning
untold m = record {
  units = m.units;
  size = m.size;
  tells = false;
  reads = Nothing;
  leaves = Nothing;
  now = λ i. ⊥;
  moment = m.moment;
  left_since = λ t i. ⊥;
  faults = m.faults;
  disk_faults = m.disk_faults;
  down = m.down;
  armed = m.armed;
  disks = m.disks;
}

-- it obeys the laws of a shelf
pub untold_Lawful : (m : Meaning) → Lawful m → Lawful (untold m)
untold_Lawful m law = record {
  some = λ is. absurd (let clash : false ≡ true = is in cc);
  image = λ is. absurd (let clash : false ≡ true = is in cc);
  none = λ not u b v left. left;
  never = λ not t i left. left;
  few = law.few;
  small = law.small;
  shown = λ u b v is. is;
  counts_now = λ t i le is. is;
  only_now = λ i left. left;
  within = λ i is. absurd is;
}
