-- The fuse of the disks of a site.
use Rattle.std.specs.Prelude.{◌≡◌, ◌≤◌, ℕ, Option, Some, None, List, IsFalse}
use Rattle.vx_disk.specs.Disks.{Disks}
use Rattle.vx_disk.specs.Shelf.{Meaning}
use Rattle.vx_model.specs.Content.{Write}
use Rattle.vx_history.specs.Events.{logged_blocks}
use Rattle.vx_history.specs.World.{Fuse, NoFuse, FuseSet, FuseLit}
use Rattle.vx_srl.specs.Views.{Log, widths}

-- The disks of a rack have a fuse that lets so many writes and flushes pass; of another shelf nothing is said.
abbrev pub LetsOn : ℕ → Option Disks → Type 0
LetsOn calls None = Unit {0}
LetsOn calls (Some disks) = (pick : ℕ) × (disks.fuse ≡ Some (calls, pick))

-- The fuse below a shelf, as far as a single call knows it: behind a line that may have used some of its calls, how many it has left at most is
-- said of the whole line.
abbrev pub FuseOn : Fuse → Meaning → Type 0
FuseOn NoFuse m = IsFalse m.armed
FuseOn (FuseSet calls) m = LetsOn calls m.disks
FuseOn (FuseLit most) m = Unit {0}

-- a fuse is set, with at most so many calls left
abbrev pub HasLeft : ℕ → Option (ℕ × ℕ) → Type 0
HasLeft most None = ⊥
HasLeft most (Some f) = f.0 ≤ most

-- a fuse has no more calls left than the world knows of
abbrev pub LeftAs : Fuse → Option (ℕ × ℕ) → Type 0
LeftAs NoFuse f = Unit {0}
LeftAs (FuseSet calls) f = HasLeft calls f
LeftAs (FuseLit most) f = HasLeft most f

-- a log that holds these writes, from the beginning of its ring on
pub record IsFirstLog (l : Log) (xs : List Write) : Type 0 where
  pub place : l.header.place ≡ 0
  pub widths_are : widths l.held ≡ logged_blocks xs
