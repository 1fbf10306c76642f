-- Maps of plexes that are emptied.
use Rattle.std.specs.Prelude.{◌≡◌, ℕ, ◌-◌, ◌<◌, Bool, true, false, IsTrue, Option, Some, None, Result, Ok, Err}
use Rattle.vx_bitmap.specs.Bits.{AllAre}
use Rattle.vx_bitmap.specs.Maps.{ChangedAt, Lies, MapOn}
use Rattle.vx_disk.specs.Counts.{Rose}
use Rattle.vx_disk.specs.Shelf.{Meaning, Nothing, Values}
use Rattle.vx_fmr.specs.Missed.{Missed, OthersSame, has_missed, missed_place}
use Rattle.vx_logs.specs.Noting.{SameFmr}
use Rattle.vx_model.specs.declared.no.No.{No}
use Rattle.vx_model.specs.declared.no.No.TheVariants as refusal

-- its blocks are there, and it has a map of this plex
abbrev pub HasPlexMap : ℕ → Option Missed → Meaning → Type 0
HasPlexMap plex None m = Unit {0}
HasPlexMap plex (Some f) m = Lies f.map m × (plex < f.plexes)

-- a value of one of its blocks while the map of a plex is emptied
abbrev pub EmptiedAt : ℕ → Option Missed → Meaning → Values
EmptiedAt plex None m = Nothing
EmptiedAt plex (Some f) m = ChangedAt f.map (missed_place f plex 0) (missed_place f plex (f.stride - 1)) false m

-- the map of the plex is durably empty, and no other changed
pub record MapEmptied (plex : ℕ) (f g : Missed) (m m' : Meaning) : Type 0 where
  pub same : SameFmr f g
  pub none : (r : ℕ) → r < f.stride → has_missed g plex r ≡ false
  pub others : OthersSame plex f g
  pub stands : MapOn f.map m → MapOn g.map m'

-- it is emptied, or the log is lost, whose disk's count rose
abbrev pub EmptyEnds : ℕ → Bool → Option Missed → Option Missed → Meaning → Meaning → Type 0
EmptyEnds plex gone None None m m' = gone ≡ false
EmptyEnds plex gone None (Some g) m m' = ⊥
EmptyEnds plex gone (Some f) None m m' = (gone ≡ true) × Rose (m.faults f.map.unit) (m'.faults f.map.unit)
EmptyEnds plex gone (Some f) (Some g) m m' = (gone ≡ false) × MapEmptied plex f g m m'

-- what is answered: whether the log was lost
abbrev pub EmptyAnswers : ℕ → Option Missed → Option Missed → Meaning → Meaning → Result Bool No → Type 0
EmptyAnswers plex old new m m' (Ok gone) = EmptyEnds plex gone old new m m' × (IsTrue m'.down → IsTrue m.down)
EmptyAnswers plex old new m m' (Err refusal.Down) = IsTrue m'.down
EmptyAnswers plex old new m m' (Err other) = ⊥

-- the map of the plex is empty, or there is no log
abbrev pub IsMapEmpty : ℕ → Option Missed → Type 0
IsMapEmpty plex None = Unit {0}
IsMapEmpty plex (Some f) = AllAre 0 (f.stride - 1) false (has_missed f plex)
