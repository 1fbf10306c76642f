-- Which blocks a call of a group writes from block 512 on, whatever an image has.
use Rattle.std.specs.Prelude.{ℕ, IsTrue}
use Rattle.vx_disk.specs.Moves.{Anything}
use Rattle.vx_disk.specs.Shelf.{Meaning, Values}
use Rattle.vx_config.specs.declared.config.Config.{Config}
use Rattle.vx_volume.specs.Plexes.{active}
use Rattle.vx_kept.specs.Keeping.{Acts, SameShape}

-- It writes such values alone. Plexes and logs lie where they lay, no plex is ACTIVE that was not, and no log is trusted that was not.
pub record PlexActs (W : Values) (c d : Config) (old new : Meaning) : Type 0 where
  pub acts : Acts W Anything old new
  pub shape : SameShape d c
  pub on : (v p : ℕ) → IsTrue (active d v p) → IsTrue (active c v p)
