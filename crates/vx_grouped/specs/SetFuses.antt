-- The fuse of the disks of a site.
use Rattle.std.specs.Prelude.{◌≡◌, ℕ, Option, Some, None, IsFalse}
use Rattle.vx_history.specs.World.{Fuse, NoFuse, FuseSet, FuseLit}
use Rattle.vx_disk.specs.Disks.{Disks}
use Rattle.vx_disk.specs.Shelf.{Meaning}

-- the disks of a rack have a fuse that lets so many writes and flushes pass
abbrev pub LetsPass : ℕ → Option Disks → Type 0
LetsPass calls None = ⊥
LetsPass calls (Some disks) = (pick : ℕ) × (disks.fuse ≡ Some (calls, pick))

-- The fuse of a rack, as far as a single call knows it: behind a line that may have used some of its calls, how many it has left at most is
-- said of the whole line.
abbrev pub HasFuse : Fuse → Meaning → Type 0
HasFuse NoFuse m = IsFalse m.armed
HasFuse (FuseSet calls) m = LetsPass calls m.disks
HasFuse (FuseLit most) m = Unit {0}
