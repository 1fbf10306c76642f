-- A group over a shelf of which a call changes the logs alone.
use Rattle.std.specs.Prelude.{ℕ}
use Rattle.vx_config.specs.declared.config.Config.{Config}
use Rattle.vx_disk.specs.Shelf.{Goes, Meaning, Nothing}
use Rattle.vx_kept.specs.Commits.{Member}
use Rattle.vx_kept.specs.Groups.{group_meaning}
use Rattle.vx_kept.specs.Keeping.{Kept}

-- Where the disks keep a configuration they still do, and the volumes read as before, at each moment and in each image.
pub record KeepsGroup (c : Config) (old new : Meaning) : Type 0 where
  pub goes : (good : ℕ) (faults : ℕ → ℕ) → Kept c (Member good old) old → Goes Nothing (group_meaning c faults old) (group_meaning c faults new)
  pub kept : (good : ℕ) → Kept c (Member good old) old → Kept c (Member good new) new
