-- The map of a plex that becomes that of another one.
use Rattle.std.specs.Prelude.{◌≡◌, ◌⊎◌, ℕ, ◌<◌, ◌≤◌, Bool, true, false, IsTrue, Option, Some, None, Result, Ok, Err}
use Rattle.vx_bitmap.specs.Maps.{Lies, MapOn}
use Rattle.vx_disk.specs.Counts.{Rose}
use Rattle.vx_disk.specs.Shelf.{Meaning}
use Rattle.vx_fmr.specs.Missed.{Missed, OthersSame, has_missed}
use Rattle.vx_logs.specs.Noting.{SameFmr}
use Rattle.vx_model.specs.declared.no.No.{No}
use Rattle.vx_model.specs.declared.no.No.TheVariants as refusal

-- its blocks are there, it has maps of two plexes, and so many regions
pub record HasBoth (to from count : ℕ) (f : Missed) (m : Meaning) : Type 0 where
  pub lies : Lies f.map m
  pub here : to < f.plexes
  pub there : from < f.plexes
  pub apart : to ≡ from → ⊥
  pub many : count ≡ f.regions
  pub fit : f.regions ≤ f.stride

-- so it is where there is a log
abbrev pub HasBothMaps : ℕ → ℕ → ℕ → Option Missed → Meaning → Type 0
HasBothMaps to from count None m = Unit {0}
HasBothMaps to from count (Some f) m = HasBoth to from count f m

-- The map of one plex has noted the first n regions that another one's has, and none that neither had; no other changed.
pub record RowNoted (to from n : ℕ) (f g : Missed) (m m' : Meaning) : Type 0 where
  pub same : SameFmr f g
  pub has : (r : ℕ) → r < n → has_missed f from r ≡ true → has_missed g to r ≡ true
  pub only : (r : ℕ) → r < f.stride → has_missed g to r ≡ true → (has_missed f to r ≡ true) ⊎ (has_missed f from r ≡ true)
  pub others : OthersSame to f g
  pub stands : MapOn f.map m → MapOn g.map m'

-- The map of one plex durably has the regions that another one's has, and no others; no other changed.
pub record MapCopied (to from : ℕ) (f g : Missed) (m m' : Meaning) : Type 0 where
  pub same : SameFmr f g
  pub has : (r : ℕ) → r < f.regions → has_missed f from r ≡ true → has_missed g to r ≡ true
  pub only : (r : ℕ) → r < f.stride → has_missed g to r ≡ true → has_missed f from r ≡ true
  pub others : OthersSame to f g
  pub stands : MapOn f.map m → MapOn g.map m'

-- it is copied, or the log is lost, whose disk's count rose
abbrev pub CopyEnds : ℕ → ℕ → Bool → Option Missed → Option Missed → Meaning → Meaning → Type 0
CopyEnds to from gone None None m m' = gone ≡ false
CopyEnds to from gone None (Some g) m m' = ⊥
CopyEnds to from gone (Some f) None m m' = (gone ≡ true) × Rose (m.faults f.map.unit) (m'.faults f.map.unit)
CopyEnds to from gone (Some f) (Some g) m m' = (gone ≡ false) × MapCopied to from f g m m'

-- what is answered: whether the log was lost
abbrev pub CopyAnswers : ℕ → ℕ → Option Missed → Option Missed → Meaning → Meaning → Result Bool No → Type 0
CopyAnswers to from old new m m' (Ok gone) = CopyEnds to from gone old new m m' × (IsTrue m'.down → IsTrue m.down)
CopyAnswers to from old new m m' (Err refusal.Down) = IsTrue m'.down
CopyAnswers to from old new m m' (Err other) = ⊥
