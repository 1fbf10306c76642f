-- What the disks of a shelf in memory mean.
use Rattle.vx_disk.specs.declared.memory.MemShelf.{MemShelf}
use Rattle.vx_disk.specs.declared.disks.MemDisks.{MemDisks}
use Rattle.vx_disk.specs.Disks.{Disks}
use Rattle.vx_disk.specs.Memory.{disks_of, meaning_of}
use Rattle.vx_disk.specs.Moments.{moments_of}
use Rattle.vx_disk.specs.Shelf.{Meaning}

-- their meaning as a shelf
abbrev pub meaning_in : MemDisks → Meaning
meaning_in m = meaning_of m.units.items (moments_of m.past.value) m.down m.fuse

-- what is told of them as a rack
abbrev pub disks_in : MemDisks → Disks
disks_in m = disks_of m.units.items m.fuse

-- the meaning of a shelf in memory
abbrev pub shelf_meaning : MemShelf → Meaning
shelf_meaning m = meaning_in m.disks
