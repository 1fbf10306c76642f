-- What the calls of a group make of it.
use Rattle.std.specs.Prelude.{◌≡◌, ℕ, ◌/◌, true, false, IsTrue, List, length}
use Rattle.vx_model.specs.declared.limits.TheConstants.{BLOCK}
use Rattle.vx_disk.specs.Blocks.{bit_at}
use Rattle.vx_disk.specs.Shelf.{Meaning, Nothing}
use Rattle.vx_config.specs.declared.config.Config.{Config}
use Rattle.vx_kept.specs.Commits.{Member}
use Rattle.vx_kept.specs.Keeping.{Acts, SameShape, Sees}
use Rattle.vx_volume.specs.Plexes.{active}
use Rattle.vx_volume.specs.Volumes.{PlexFlushed, PlexWrote}
use Rattle.vx_group.specs.declared.inner.Inner.{Inner}

-- A commit was made or refused: no block of a plex was touched, and no plex is ACTIVE that was not.
pub record Narrows (c d : Inner) (old new : Meaning) : Type 0 where
  pub acts : Acts Nothing (Sees c.config (Member c.good old) old) old new
  pub shape : SameShape d.config c.config
  pub on : (v p : ℕ) → IsTrue (active d.config v p) → IsTrue (active c.config v p)
  pub faults : d.faults ≡ c.faults
  pub unsure : d.unsure ≡ c.unsure

-- none of these plexes of a volume is ACTIVE
pub record AreOff (d : Config) (v set : ℕ) : Type 0 where
  pub each : (p : ℕ) → bit_at set p ≡ true → active d v p ≡ false

-- each plex of the volume that is ACTIVE reads what was written, and elsewhere what it read
pub record AllWrote (d : Config) (v block : ℕ) (bytes : List ℕ) (old new : Meaning) : Type 0 where
  pub each : (p : ℕ) → IsTrue (active d v p) → PlexWrote d v p block (length bytes / BLOCK) block (length bytes / BLOCK) bytes old new

-- a crash leaves of each plex of the volume that is ACTIVE what it read
pub record AllFlushed (d : Config) (v : ℕ) (old new : Meaning) : Type 0 where
  pub each : (p : ℕ) → IsTrue (active d v p) → PlexFlushed d v p old new
