-- Maps of plexes that are filled, so that their next attach copies all regions.
use Rattle.std.specs.Prelude.{◌≡◌, ℕ, ◌<◌, ◌≤◌, Bool, true, false, IsTrue, Option, Some, None, Result, Ok, Err}
use Rattle.vx_bitmap.specs.Maps.{ChangedAt, Lies, MapOn}
use Rattle.vx_config.specs.declared.config.Config.{Config}
use Rattle.vx_disk.specs.Blocks.{bit_at}
use Rattle.vx_disk.specs.Counts.{Rose}
use Rattle.vx_disk.specs.Shelf.{Meaning, Nothing, Values}
use Rattle.vx_fmr.specs.Missed.{Missed, OthersSame, has_missed, missed_place}
use Rattle.vx_logs.specs.Noting.{SameFmr}
use Rattle.vx_logs.specs.declared.logs.Logs.{Logs}
use Rattle.vx_model.specs.declared.no.No.{No}
use Rattle.vx_model.specs.declared.no.No.TheVariants as refusal
use Rattle.vx_groupmaps.specs.Missing.{by_map}

-- its blocks are there, and it has this region of the plex
abbrev pub HasMapRegion : ℕ → ℕ → Option Missed → Meaning → Type 0
HasMapRegion plex last None m = Unit {0}
HasMapRegion plex last (Some f) m = Lies f.map m × (plex < f.plexes) × (last < f.regions) × (last < f.stride)

-- a value of one of its blocks while the map of a plex is filled up to a region
abbrev pub FilledAt : ℕ → ℕ → Option Missed → Meaning → Values
FilledAt plex last None m = Nothing
FilledAt plex last (Some f) m = ChangedAt f.map (missed_place f plex 0) (missed_place f plex last) true m

-- the map of the plex durably has each region, and no other changed
pub record MapFilled (plex last : ℕ) (f g : Missed) (m m' : Meaning) : Type 0 where
  pub same : SameFmr f g
  pub all : (r : ℕ) → r ≤ last → has_missed g plex r ≡ true
  pub others : OthersSame plex f g
  pub stands : MapOn f.map m → MapOn g.map m'

-- it is filled, or the log is lost, whose disk's count rose
abbrev pub FillEnds : ℕ → ℕ → Bool → Option Missed → Option Missed → Meaning → Meaning → Type 0
FillEnds plex last gone None None m m' = gone ≡ false
FillEnds plex last gone None (Some g) m m' = ⊥
FillEnds plex last gone (Some f) None m m' = (gone ≡ true) × Rose (m.faults f.map.unit) (m'.faults f.map.unit)
FillEnds plex last gone (Some f) (Some g) m m' = (gone ≡ false) × MapFilled plex last f g m m'

-- what is answered: whether the log was lost
abbrev pub FillAnswers : ℕ → ℕ → Option Missed → Option Missed → Meaning → Meaning → Result Bool No → Type 0
FillAnswers plex last old new m m' (Ok gone) = FillEnds plex last gone old new m m' × (IsTrue m'.down → IsTrue m.down)
FillAnswers plex last old new m m' (Err refusal.Down) = IsTrue m'.down
FillAnswers plex last old new m m' (Err other) = ⊥

-- whether a log was lost, whose disk's count rose
abbrev pub LostEnds : Bool → Option Missed → Option Missed → Meaning → Meaning → Type 0
LostEnds gone None None m m' = gone ≡ false
LostEnds gone None (Some g) m m' = ⊥
LostEnds gone (Some f) None m m' = (gone ≡ true) × Rose (m.faults f.map.unit) (m'.faults f.map.unit)
LostEnds gone (Some f) (Some g) m m' = (gone ≡ false) × SameFmr f g

-- what is answered of several maps
abbrev pub LostAnswers : Option Missed → Option Missed → Meaning → Meaning → Result Bool No → Type 0
LostAnswers old new m m' (Ok gone) = LostEnds gone old new m m' × (IsTrue m'.down → IsTrue m.down)
LostAnswers old new m m' (Err refusal.Down) = IsTrue m'.down
LostAnswers old new m m' (Err other) = ⊥

-- each plex of a set that goes by its map has missed each region of the volume
pub record AreFilled (c : Config) (v set last : ℕ) (l : Logs) : Type 0 where
  pub so : (f : Missed) → l.fmr ≡ Some f → (p r : ℕ) → IsTrue (by_map c v p) → bit_at set p ≡ true → r ≤ last → has_missed f p r ≡ true
