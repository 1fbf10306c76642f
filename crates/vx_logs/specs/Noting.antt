-- What a note of regions in the maps of several plexes of a volume does, where it has a log of missed regions.
use Rattle.std.specs.Prelude.{◌≡◌, ◌⊎◌, ℕ, ◌<◌, Bool, true, false, not, ◌&&◌, ◌||◌, ltb, ◌==◌, IsTrue, if◌then◌else◌, Option, Some, None, List, Result, Ok, Err}
use Rattle.vx_bitmap.specs.Bits.{AllAre, is_among}
use Rattle.vx_bitmap.specs.Maps.{Lies, MapOn, SamePlace, map_block_count, marks_with}
use Rattle.vx_disk.specs.Blocks.{bit_at}
use Rattle.vx_disk.specs.Counts.{Rose}
use Rattle.vx_disk.specs.Moves.{Run}
use Rattle.vx_disk.specs.Shelf.{Meaning, Nothing, Values}
use Rattle.vx_fmr.specs.Missed.{IsMissedKept, Missed, SameMissedShape, has_missed, missed_place}
use Rattle.vx_model.specs.declared.limits.TheConstants.{MOST_PLEXES}
use Rattle.vx_model.specs.declared.no.No.{No}
use Rattle.vx_model.specs.declared.no.No.TheVariants as refusal

-- one plex alone, and those of a set below a place
abbrev pub this_plex : ℕ → ℕ → Bool
this_plex plex p = p == plex

abbrev pub below : ℕ → ℕ → ℕ → Bool
below n set p = ltb p n && bit_at set p

-- the plexes of a set
abbrev pub is_one : ℕ → ℕ → Bool
is_one set p = below MOST_PLEXES set p

-- it has the maps of its plexes, and its blocks are there
pub record IsMissedMap (last : ℕ) (f : Missed) (m : Meaning) : Type 0 where
  pub lies : Lies f.map m
  pub kept : IsMissedKept f.map f.plexes f.stride f.regions
  pub inside : last < f.regions

-- each plex of a set has a map
pub record FmrHas (set last : ℕ) (f : Missed) (m : Meaning) : Type 0 where
  pub map : IsMissedMap last f m
  pub exist : (p : ℕ) → is_one set p ≡ true → p < f.plexes

-- whether a region is noted behind a note of a run: one of the run is, and another where it was, unless the map begins anew
abbrev pub noted_region : Bool → ℕ → ℕ → ℕ → Bool → Bool
noted_region anew first last r was = is_among first last r || (not anew && was)

-- these plexes have noted the run, and the maps of the others are as they were
pub record Noted (those : ℕ → Bool) (anew : Bool) (first last : ℕ) (old new : Missed) : Type 0 where
  pub each : (p r : ℕ) → p < old.plexes → r < old.stride → has_missed new p r ≡ (if those p then noted_region anew first last r (has_missed old p r) else has_missed old p r)

-- in a note: a region of the run may be noted, and where the map begins anew any region may be not; else it is as it was
abbrev pub MayBeNoted : (those : ℕ → Bool) (anew : Bool) (first last p r : ℕ) (was now : Bool) → Type 0
MayBeNoted those anew first last p r was now = (now ≡ was) ⊎ ((those p ≡ true) × (((is_among first last r ≡ true) × (now ≡ true)) ⊎ ((anew ≡ true) × (now ≡ false))))

-- a value of a block of the maps in a note
pub record NotedAt (those : ℕ → Bool) (anew : Bool) (first last : ℕ) (f : Missed) (m : Meaning) (u b : ℕ) (x : List ℕ) : Type 0 where
  pub run : Run f.map.unit f.map.first (map_block_count f.map) u b
  pub so : MapOn f.map m → (p r : ℕ) → p < f.plexes → r < f.stride → MayBeNoted those anew first last p r (has_missed f p r) (marks_with f.map b x (missed_place f p r))

-- it stands where it stood, with as many plexes and regions
pub record SameFmr (old new : Missed) : Type 0 where
  pub place : SamePlace old.map new.map
  pub shape : SameMissedShape old new

-- the run is durably noted, and nothing else changed
pub record FmrNoted (those : ℕ → Bool) (anew : Bool) (first last : ℕ) (old new : Missed) (m m' : Meaning) : Type 0 where
  pub same : SameFmr old new
  pub notes : Noted those anew first last old new
  pub stands : MapOn old.map m → MapOn new.map m'

-- ---- where there is a log

abbrev pub FmrReady : ℕ → ℕ → Option Missed → Meaning → Type 0
FmrReady set last None m = Unit {0}
FmrReady set last (Some f) m = FmrHas set last f m

abbrev pub FmrAt : (ℕ → Bool) → Bool → ℕ → ℕ → Option Missed → Meaning → Values
FmrAt those anew first last None m = Nothing
FmrAt those anew first last (Some f) m = NotedAt those anew first last f m

abbrev pub FmrKeeps : Option Missed → Option Missed → Type 0
FmrKeeps None None = Unit {0}
FmrKeeps None (Some g) = ⊥
FmrKeeps (Some f) None = Unit {0}
FmrKeeps (Some f) (Some g) = SameFmr f g

-- the run is noted, or the log is lost, whose disk's count rose
abbrev pub FmrEnds : (ℕ → Bool) → Bool → ℕ → ℕ → Bool → Option Missed → Option Missed → Meaning → Meaning → Type 0
FmrEnds those anew first last lost None None m m' = lost ≡ false
FmrEnds those anew first last lost None (Some g) m m' = ⊥
FmrEnds those anew first last lost (Some f) None m m' = (lost ≡ true) × Rose (m.faults f.map.unit) (m'.faults f.map.unit)
FmrEnds those anew first last lost (Some f) (Some g) m m' = (lost ≡ false) × FmrNoted those anew first last f g m m'

-- what a note answers: whether the log was lost
abbrev pub FmrAnswers : (ℕ → Bool) → Bool → ℕ → ℕ → Option Missed → Option Missed → Meaning → Meaning → Result Bool No → Type 0
FmrAnswers those anew first last old new m m' (Ok lost) = FmrEnds those anew first last lost old new m m' × (IsTrue m'.down → IsTrue m.down)
FmrAnswers those anew first last old new m m' (Err refusal.Down) = IsTrue m'.down
FmrAnswers those anew first last old new m m' (Err other) = ⊥

-- no map begins anew, and each plex of the set has noted the run; or the set has none
pub record IsStill (set : ℕ) (anew : Bool) (first last : ℕ) (f : Missed) : Type 0 where
  pub each : (p : ℕ) → is_one set p ≡ true → (anew ≡ false) × AllAre first last true (has_missed f p)

abbrev pub FmrStill : ℕ → Bool → ℕ → ℕ → Option Missed → Type 0
FmrStill set anew first last None = Unit {0}
FmrStill set anew first last (Some f) = IsStill set anew first last f
