-- What the line that hands a packet to its target looks at.
use Rattle.std.specs.Prelude.{◌≡◌, Bool, true, false}
use Rattle.vx_disk.specs.declared.shelf.Shelf.{Ghosts}
use Rattle.vx_diskset.specs.Aboves.{above_in, is_receiver}
use Rattle.vx_diskset.specs.declared.disk_set.DiskSet.{DiskSet}
use Rattle.vx_diskset.specs.declared.disk_set.DiskSet.TheVariants.{Bare, Spoiled, Up, Receives as HasRoom, Down, OfGroup, Over, Gone}

module _ {R : Type 0} {g : Ghosts R} where
  -- whether a group has the room in which updates wait
  abbrev pub Receives : DiskSet R g → Bool → Type 0
  Receives (Bare rack) b = b ≡ false
  Receives (Spoiled rack) b = b ≡ false
  Receives (Up rvg) b = b ≡ false
  Receives (HasRoom s) b = b ≡ true
  Receives (Down rack) b = b ≡ false
  Receives (OfGroup s) b = b ≡ false
  Receives (Over s) b = b ≡ is_receiver (above_in s)
  Receives Gone b = b ≡ false
