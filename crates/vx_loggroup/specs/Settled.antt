-- What images say of volumes that stopped cleanly, as facts without a choice in them; and of which volumes the plexes are alike.
use Rattle.std.specs.Prelude.{◌≡◌, ℕ, ◌<◌, Bool, true, false, IsTrue, List, length}
use Rattle.vx_config.specs.declared.config.Config.{Config}
use Rattle.vx_copyfmt.specs.Imports.{Found}
use Rattle.vx_disk.specs.Shelf.{Each, Image, Meaning}
use Rattle.vx_group.specs.Holding.{wide}
use Rattle.vx_group.specs.Settles.{FindsNoneClean, LacksCommit, LivesAgree}
use Rattle.vx_group.specs.declared.group_core.GroupCore.{GroupCore}
use Rattle.vx_group.specs.declared.inner.Inner.{Inner}
use Rattle.vx_kept.specs.Cleans.{clean, is_unsure}
use Rattle.vx_kept.specs.Groups.{found}
use Rattle.vx_loggroup.specs.LoggedVolumes.{is_alike}

-- Where an image has a plex that is CLEAN the plexes of its volume that take part have one value in each block; and while the disks are up and no commit
-- is missed none has such a plex.
pub record CleanFact (c : Inner) (m : Meaning) : Type 0 where
  pub agree : (v p : ℕ) (i : Image) (x : Config) → Each m.leaves i → found m i ≡ Found x → clean x v p ≡ true → LivesAgree x v m
  pub none : (IsTrue m.down → ⊥) → c.unsettled ≡ false → (v : ℕ) → FindsNoneClean v m

-- of each of the first n volumes of which no write and no flush failed the plexes are said to be alike
pub record SureFlags (n : ℕ) (unsure alike : List Bool) : Type 0 where
  pub each : (v : ℕ) → v < n → is_unsure unsure v ≡ false → is_alike alike v ≡ true

-- the first of a group, unless it lacks a commit, and the second while the disks are up
pub record SettledFact (core : GroupCore) (alike : List Bool) (m : Meaning) : Type 0 where
  pub told : (LacksCommit (wide core) → ⊥) → CleanFact (wide core) m
  pub sure : (IsTrue m.down → ⊥) → SureFlags (length core.inner.config.volumes) core.inner.unsure alike
