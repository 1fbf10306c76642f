-- What a mark of regions in the dirty region log of a volume does, where it has one.
use Rattle.std.specs.Prelude.{◌≡◌, ℕ, ◌<◌, Bool, true, false, IsTrue, Option, Some, None, Result, Ok, Err}
use Rattle.vx_bitmap.specs.Bits.{AllAre, Between, Changed}
use Rattle.vx_bitmap.specs.Maps.{ChangedAt, Lies, MapOn, SamePlace, regions_mapped}
use Rattle.vx_disk.specs.Counts.{Rose}
use Rattle.vx_disk.specs.Shelf.{Meaning, Nothing, Values}
use Rattle.vx_drl.specs.Dirty.{Dirty, HoldsMarks, is_dirty}
use Rattle.vx_model.specs.declared.no.No.{No}
use Rattle.vx_model.specs.declared.no.No.TheVariants as refusal

-- its blocks are there, and it has this region
abbrev pub DrlHas : ℕ → Option Dirty → Meaning → Type 0
DrlHas last None m = Unit {0}
DrlHas last (Some d) m = Lies d.map m × (last < d.regions)

-- a value of one of its blocks in the change of a run of regions to this value
abbrev pub DrlAt : ℕ → ℕ → Bool → Option Dirty → Meaning → Values
DrlAt first last value None m = Nothing
DrlAt first last value (Some d) m = ChangedAt d.map first last value m

-- it stands where it stood, with as many regions
pub record SameDrl (old new : Dirty) : Type 0 where
  pub place : SamePlace old.map new.map
  pub regions : new.regions ≡ old.regions

-- it stands where it stood, or is lost
abbrev pub DrlKeeps : Option Dirty → Option Dirty → Type 0
DrlKeeps None None = Unit {0}
DrlKeeps None (Some e) = ⊥
DrlKeeps (Some d) None = Unit {0}
DrlKeeps (Some d) (Some e) = SameDrl d e

-- the regions are durably marked, and no other changed
pub record DrlMarked (first last : ℕ) (old new : Dirty) (m m' : Meaning) : Type 0 where
  pub same : SameDrl old new
  pub marks : Changed first last true (regions_mapped old.map) (is_dirty old) (is_dirty new)
  pub stands : MapOn old.map m → MapOn new.map m'
  pub held : HoldsMarks first last old new

-- the regions are marked, or the log is lost, whose disk's count rose
abbrev pub DrlEnds : ℕ → ℕ → Bool → Option Dirty → Option Dirty → Meaning → Meaning → Type 0
DrlEnds first last lost None None m m' = lost ≡ false
DrlEnds first last lost None (Some e) m m' = ⊥
DrlEnds first last lost (Some d) None m m' = (lost ≡ true) × Rose (m.faults d.map.unit) (m'.faults d.map.unit)
DrlEnds first last lost (Some d) (Some e) m m' = (lost ≡ false) × DrlMarked first last d e m m'

-- what a mark answers: whether the log was lost
abbrev pub DrlAnswers : ℕ → ℕ → Option Dirty → Option Dirty → Meaning → Meaning → Result Bool No → Type 0
DrlAnswers first last old new m m' (Ok lost) = DrlEnds first last lost old new m m' × (IsTrue m'.down → IsTrue m.down)
DrlAnswers first last old new m m' (Err refusal.Down) = IsTrue m'.down
DrlAnswers first last old new m m' (Err other) = ⊥

-- all of the regions are marked, where there is a log
abbrev pub DrlHolds : ℕ → ℕ → Option Dirty → Type 0
DrlHolds first last None = Unit {0}
DrlHolds first last (Some d) = AllAre first last true (is_dirty d)

-- no region is marked but those that were, whatever is answered
abbrev pub DrlWithin : ℕ → ℕ → Option Dirty → Option Dirty → Type 0
DrlWithin first last None new = Unit {0}
DrlWithin first last (Some d) None = Unit {0}
DrlWithin first last (Some d) (Some e) = Between first last true (regions_mapped d.map) (is_dirty d) (is_dirty e)
