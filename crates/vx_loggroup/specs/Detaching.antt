-- A plex of a group with logs that is detached: its map begins then.
use Rattle.std.specs.Prelude.{◌≡◌, ℕ, ◌/◌, ◌<◌, true, false, IsTrue, Option, None, Some, List, slice_get}
use Rattle.vx_config.specs.declared.config.Config.{Config}
use Rattle.vx_disk.specs.Shelf.{Meaning}
use Rattle.vx_fmr.specs.Missed.{Missed, OthersSame, SameMissedShape, has_missed}
use Rattle.vx_layout.specs.Places.{HasBlock, place}
use Rattle.vx_logs.specs.declared.logs.Logs.{Logs}
use Rattle.vx_model.specs.declared.limits.TheConstants.{REGION}
use Rattle.vx_volume.specs.Plexes.{Inside, active}

-- a plex reads in each block what each plex that is ACTIVE reads, where the shelf is up
pub record ReadsAlike (c : Config) (v p : ℕ) (m : Meaning) : Type 0 where
  pub so : (IsTrue m.down → ⊥) → (q b : ℕ) (x y : List ℕ) → HasBlock c v p b → IsTrue (active c v q) → Inside c v b → m.reads (place c v p b).0 (place c v p b).1 x → m.reads (place c v q b).0 (place c v q b).1 y → x ≡ y

-- the maps of the other plexes are as they were, and that of this one has no region that it had not
pub record BeginsMap (plex : ℕ) (f g : Missed) : Type 0 where
  pub shape : SameMissedShape f g
  pub others : OthersSame plex f g
  pub fewer : (r : ℕ) → plex < f.plexes → r < f.stride → has_missed g plex r ≡ true → has_missed f plex r ≡ true

-- so it is of the maps of a volume, or they are in memory no more; its dirty region log is as it was
pub record LogsBegin (plex : ℕ) (l k : Logs) : Type 0 where
  pub drl : k.drl ≡ l.drl
  pub gone : l.fmr ≡ None → k.fmr ≡ None
  pub here : (f g : Missed) → l.fmr ≡ Some f → k.fmr ≡ Some g → BeginsMap plex f g

-- so it is of volume v, and the logs of the others are as they were
pub record MapsBegin (v plex : ℕ) (old new : List Logs) : Type 0 where
  pub others : (w : ℕ) → (w ≡ v → ⊥) → slice_get new w ≡ slice_get old w
  pub here : (l k : Logs) → slice_get old v ≡ Some l → slice_get new v ≡ Some k → LogsBegin plex l k

-- the map of a plex, where there is one, has no region of the volume
pub record MapIsEmpty (c : Config) (v p : ℕ) (o : Option Missed) : Type 0 where
  pub so : (f : Missed) → o ≡ Some f → (b : ℕ) → Inside c v b → has_missed f p (b / REGION) ≡ false
