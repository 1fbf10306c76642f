-- What the maps of missed regions in memory know of what plexes read.
use Rattle.std.specs.Prelude.{◌≡◌, ◌⊎◌, ℕ, ◌/◌, ◌<◌, ◌≤◌, Bool, true, false, not, ◌&&◌, ◌||◌, IsTrue, None, Some, List}
use Rattle.vx_bitmap.specs.Bits.{is_among}
use Rattle.vx_config.specs.declared.config.Config.{Config}
use Rattle.vx_disk.specs.Shelf.{Meaning, Values}
use Rattle.vx_fmr.specs.Missed.{Missed, SameMissedShape, has_missed}
use Rattle.vx_layout.specs.Places.{HasBlock, place}
use Rattle.vx_logs.specs.Held.{stale}
use Rattle.vx_logs.specs.declared.logs.Logs.{Logs}
use Rattle.vx_model.specs.declared.limits.TheConstants.{REGION}
use Rattle.vx_volume.specs.Plexes.{Inside, active}
use Rattle.vx_groupmaps.specs.Missing.{none_spared, or_spared}

-- By these values a plex, whatever its state, has in each block of which it has not missed the region what each plex that is ACTIVE has.
pub record PlexesKnow (c : Config) (v : ℕ) (missed : ℕ → ℕ → Bool) (values : Values) : Type 0 where
  pub so : (p q b : ℕ) (x y : List ℕ) → HasBlock c v p b → IsTrue (active c v q) → Inside c v b → missed p (b / REGION) ≡ false
      → values (place c v p b).0 (place c v p b).1 x → values (place c v q b).0 (place c v q b).1 y → x ≡ y

-- So it is by the maps in memory, where there are any, of what plexes read, but for the regions that are spared.
pub record MapsKnowBy (c : Config) (v : ℕ) (spare : ℕ → ℕ → Bool) (l : Logs) (m : Meaning) : Type 0 where
  pub so : (f : Missed) → l.fmr ≡ Some f → (IsTrue m.down → ⊥) → PlexesKnow c v (or_spared spare (has_missed f)) m.reads

-- none is spared
abbrev pub MapsKnow : Config → ℕ → Logs → Meaning → Type 0
MapsKnow c v l m = MapsKnowBy c v none_spared l m

-- the regions of a run, of those plexes, and those that are spared
abbrev pub or_those : (ℕ → Bool) → ℕ → ℕ → (ℕ → ℕ → Bool) → ℕ → ℕ → Bool
or_those those first last spare p r = (those p && is_among first last r) || spare p r

-- the regions of a run, of plexes that are STALE, and those that are spared
abbrev pub or_stale : Config → ℕ → ℕ → ℕ → (ℕ → ℕ → Bool) → ℕ → ℕ → Bool
or_stale c v first last spare p r = (stale c v p && is_among first last r) || spare p r

-- the same of plexes that are not ACTIVE
abbrev pub or_off : Config → ℕ → ℕ → ℕ → (ℕ → ℕ → Bool) → ℕ → ℕ → Bool
or_off c v first last spare p r = (not (active c v p) && is_among first last r) || spare p r

-- A map behind notes: it has as many plexes and regions; what it had it has, and what it has besides is of a run, of one of these plexes.
pub record NotesMore (those : ℕ → Bool) (first last : ℕ) (f g : Missed) : Type 0 where
  pub shape : SameMissedShape f g
  pub stay : (p r : ℕ) → p < f.plexes → r < f.stride → has_missed f p r ≡ true → has_missed g p r ≡ true
  pub only : (p r : ℕ) → p < f.plexes → r < f.stride → has_missed g p r ≡ true → (has_missed f p r ≡ true) ⊎ ((those p ≡ true) × (first ≤ r) × (r ≤ last))

-- so it is of the maps of a volume, or they are in memory no more
pub record MapsNote (those : ℕ → Bool) (first last : ℕ) (l l' : Logs) : Type 0 where
  pub gone : l.fmr ≡ None → l'.fmr ≡ None
  pub each : (f g : Missed) → l.fmr ≡ Some f → l'.fmr ≡ Some g → NotesMore those first last f g

-- no region is noted that was not, and none is gone, where the maps are in memory still
abbrev pub MapsStay : Logs → Logs → Type 0
MapsStay l l' = MapsNote (λ p. false) 0 0 l l'
