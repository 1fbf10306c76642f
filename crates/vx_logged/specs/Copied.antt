-- The map of a plex that becomes that of another one, in a call of a group.
use Rattle.std.specs.Prelude.{◌≡◌, ℕ, ◌<◌, Bool, true, not, ◌||◌, IsTrue, None, Some}
use Rattle.vx_config.specs.declared.config.Config.{Config}
use Rattle.vx_disk.specs.Shelf.{Meaning}
use Rattle.vx_fmr.specs.Missed.{Missed, OthersSame, SameMissedShape, has_missed}
use Rattle.vx_groupmaps.specs.Knowing.{PlexesKnow}
use Rattle.vx_logs.specs.Noting.{this_plex}
use Rattle.vx_logs.specs.declared.logs.Logs.{Logs}

-- each region of the plexes that are not this one, and those that the map of another one has
abbrev pub off_row : ℕ → ℕ → Missed → ℕ → ℕ → Bool
off_row to from f p r = not (this_plex to p) || has_missed f from r

-- out of the regions that the map of another plex has, this one reads what each plex that is ACTIVE reads
pub record ReadsRow (c : Config) (v to from : ℕ) (l : Logs) (m : Meaning) : Type 0 where
  pub so : (f : Missed) → l.fmr ≡ Some f → (IsTrue m.down → ⊥) → PlexesKnow c v (off_row to from f) m.reads

-- The map of one plex has the regions that another one's had, and no others; those of the others are as they were.
pub record TakesRow (to from : ℕ) (f g : Missed) : Type 0 where
  pub shape : SameMissedShape f g
  pub all : (r : ℕ) → r < f.regions → has_missed f from r ≡ true → has_missed g to r ≡ true
  pub only : (r : ℕ) → r < f.stride → has_missed g to r ≡ true → has_missed f from r ≡ true
  pub others : OthersSame to f g

-- so it is of the maps of a volume, or they are in memory no more
pub record MapsTake (to from : ℕ) (l l' : Logs) : Type 0 where
  pub gone : l.fmr ≡ None → l'.fmr ≡ None
  pub each : (f g : Missed) → l.fmr ≡ Some f → l'.fmr ≡ Some g → TakesRow to from f g
