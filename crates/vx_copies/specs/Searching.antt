-- What was found on the disks so far.
use Rattle.std.specs.Prelude.{◌≡◌, ℕ, ◌<◌, ◌≤◌, Bool, true, false, IsTrue, Option, Some, None}
use Rattle.vx_model.specs.declared.limits.TheConstants.{MOST_DISKS}
use Rattle.vx_disk.specs.Counts.{Rose}
use Rattle.vx_disk.specs.Shelf.{Meaning, Image}
use Rattle.vx_copyfmt.specs.Copies.{Copy}
use Rattle.vx_copyfmt.specs.Imports.{newest_found, on_disk, strange}
use Rattle.vx_config.specs.declared.config.Config.{Config}
use Rattle.vx_copies.specs.Answers.{flag_at}
use Rattle.vx_copies.specs.Looking.{copy_view, on_shelf, body_view, FitsBody}
use Rattle.vx_copies.specs.declared.search.Best.{Best}
use Rattle.vx_copies.specs.declared.search.Search.{Search}
use Rattle.vx_copies.specs.declared.seen.DiskSeen.{DiskSeen}
use Rattle.vx_copies.specs.declared.seen.DiskSeen.TheVariants as disk

-- the greatest copy with its disk
abbrev pub best_view : Option Best → Option (ℕ × Copy Config)
best_view None = None
best_view (Some x) = Some (x.disk, record { serial = x.copy.serial; area = x.copy.area; body = body_view x.copy.body })

abbrev pub FitsBest : ℕ → Option Best → Type 0
FitsBest units None = Unit {0}
FitsBest units (Some x) = FitsBody units x.copy.body

-- what one disk adds
abbrev pub seen_view : ℕ → DiskSeen → Option (ℕ × Copy Config)
seen_view u disk.Unreadable = None
seen_view u (disk.Format version) = None
seen_view u (disk.Seen copy) = on_disk u (copy_view copy)

abbrev pub seen_format : DiskSeen → Option ℕ
seen_format disk.Unreadable = None
seen_format (disk.Format version) = Some version
seen_format (disk.Seen copy) = None

abbrev pub seen_readable : DiskSeen → Bool
seen_readable disk.Unreadable = false
seen_readable (disk.Format version) = true
seen_readable (disk.Seen copy) = true

-- the disks below n are as reads gave them, and the others were left alone
pub record Searched (n : ℕ) (old new : Meaning) (s : Search) : Type 0 where
  pub readable : ℕ → Bool
  pub image : Image
  pub read : IsTrue old.tells → (u b : ℕ) → u < n → old.reads u b (image u b)
  pub blamed : (u : ℕ) → u < n → readable u ≡ false → Rose (old.faults u) (new.faults u)
  pub still : (u : ℕ) → u < n → readable u ≡ true → new.faults u ≡ old.faults u
  pub alone : (u : ℕ) → n ≤ u → new.faults u ≡ old.faults u
  pub format : strange readable image n ≡ s.format
  pub best : newest_found (on_shelf old) readable image n ≡ best_view s.best
  pub flags : (u : ℕ) → u < n → u < MOST_DISKS → flag_at s.readable u ≡ readable u
  pub fits : FitsBest old.units s.best
