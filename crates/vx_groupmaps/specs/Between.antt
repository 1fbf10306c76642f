-- What a group's calls between those on the maps leave of what plexes read.
use Rattle.std.specs.Prelude.{◌≡◌, ◌⊎◌, ℕ, ◌/◌, ◌≤◌, true, false, IsTrue, Some, List}
use Rattle.vx_config.specs.declared.config.Config.{Config}
use Rattle.vx_disk.specs.Blocks.{bit_at}
use Rattle.vx_disk.specs.Shelf.{Meaning, Or, Values}
use Rattle.vx_fmr.specs.Missed.{Missed, has_missed}
use Rattle.vx_layout.specs.Places.{place}
use Rattle.vx_logs.specs.declared.logs.Logs.{Logs}
use Rattle.vx_model.specs.declared.limits.TheConstants.{PUBLIC_START, REGION}
use Rattle.vx_volume.specs.Plexes.{Inside, active}
use Rattle.vx_groupmaps.specs.Missing.{by_map}

-- From block 512 on, where plexes lie, a read gives what it gave or one of these values, where the shelf is up.
pub record ReadsOr (written : Values) (old new : Meaning) : Type 0 where
  pub so : (u b : ℕ) (x : List ℕ) → PUBLIC_START ≤ b → new.reads u b x → Or old.reads written u b x ⊎ IsTrue new.down
  pub falls : IsTrue old.down → IsTrue new.down

-- The same plexes at the same places, some of which were ACTIVE and are it no more.
pub record Detaches (c d : Config) (v : ℕ) : Type 0 where
  pub places : (p b : ℕ) → place d v p b ≡ place c v p b
  pub inside : (b : ℕ) → Inside d v b → Inside c v b
  pub on : (q : ℕ) → IsTrue (active d v q) → IsTrue (active c v q)
  pub mapped : (p : ℕ) → IsTrue (by_map d v p) → IsTrue (by_map c v p) ⊎ IsTrue (active c v p)

-- each plex that was ACTIVE, and goes by its map now, is one of a set
pub record NewlyIn (c d : Config) (v set : ℕ) : Type 0 where
  pub so : (p : ℕ) → IsTrue (by_map d v p) → IsTrue (active c v p) → bit_at set p ≡ true

-- The same plexes at the same places, of which this one more is ACTIVE.
pub record AttachesPlex (c d : Config) (v a : ℕ) : Type 0 where
  pub places : (p b : ℕ) → place d v p b ≡ place c v p b
  pub inside : (b : ℕ) → Inside d v b → Inside c v b
  pub on : (q : ℕ) → IsTrue (active d v q) → IsTrue (active c v q) ⊎ (q ≡ a)
  pub mapped : (p : ℕ) → IsTrue (by_map d v p) → IsTrue (by_map c v p)

-- By these new values a plex has what some plex that is ACTIVE had by the old ones.
pub record HasVolumeContent (c : Config) (v a : ℕ) (old new : Values) : Type 0 where
  pub so : (k : ℕ) (y : List ℕ) → Inside c v k → new (place c v a k).0 (place c v a k).1 y → (q : ℕ) × IsTrue (active c v q) × old (place c v q k).0 (place c v q k).1 y

-- A crash leaves of each plex that is ACTIVE what it read, and of each that goes by its map what it read of the regions that it has not missed.
pub record PlexesSettled (c : Config) (v : ℕ) (l : Logs) (old new : Meaning) : Type 0 where
  pub on : (q k : ℕ) (y : List ℕ) → IsTrue (active c v q) → Inside c v k → new.leaves (place c v q k).0 (place c v q k).1 y → old.reads (place c v q k).0 (place c v q k).1 y
  pub mapped : (f : Missed) (p k : ℕ) (x : List ℕ) → l.fmr ≡ Some f → IsTrue (by_map c v p) → Inside c v k → has_missed f p (k / REGION) ≡ false → new.leaves (place c v p k).0 (place c v p k).1 x → old.reads (place c v p k).0 (place c v p k).1 x
