-- When a write or a flush of a volume gives up.
use Rattle.std.specs.Prelude.{◌≡◌, ◌⊎◌, ◌≤◌, ℕ, true, IsTrue, Result, Ok, Err}
use Rattle.vx_disk.specs.Shelf.{Meaning}
use Rattle.vx_disk.specs.declared.shelf.ShelfError.{ShelfError}
use Rattle.vx_disk.specs.declared.shelf.ShelfError.TheVariants.{Fault, Down}
use Rattle.vx_config.specs.Table.{greatest}
use Rattle.vx_config.specs.declared.config.Config.{Config}
use Rattle.vx_kept.specs.Commits.{IsCommitted}
use Rattle.vx_volume.specs.Plexes.{active}
use Rattle.vx_volume.specs.Volumes.{PlexBlamed}
use Rattle.vx_group.specs.declared.inner.Inner.{Inner}

-- a commit was refused, and none was made since; or the shelf is down
abbrev pub NoCommit : Inner → Meaning → Type 0
NoCommit d m = (d.unsettled ≡ true) ⊎ IsTrue m.down

-- so it is, or the configuration in memory was committed
abbrev pub MissesOrHas : Inner → Meaning → Type 0
MissesOrHas d m = NoCommit d m ⊎ IsCommitted d.config m

-- each plex of the volume that was ACTIVE had a failed call on one of its disks
pub record EachBlamed (c : Config) (v : ℕ) (old new : Meaning) : Type 0 where
  pub each : (p : ℕ) → IsTrue (active c v p) → PlexBlamed c v p old new

-- a fault changes no plex
abbrev pub KeepsVolumes : {T : Type 0} → Config → Config → Result T ShelfError → Type 0
KeepsVolumes c d (Ok x) = Unit {0}
KeepsVolumes c d (Err (Fault disk)) = d.volumes ≡ c.volumes
KeepsVolumes c d (Err Down) = Unit {0}

-- A call on a volume fails with a fault only where each plex that was ACTIVE had a failed call in it, or a commit was refused; then no plex
-- changes its state.
abbrev pub GivesUp : {T : Type 0} → ℕ → Inner → Inner → Meaning → Meaning → Result T ShelfError → Type 0
GivesUp v c d old new (Ok x) = Unit {0}
GivesUp v c d old new (Err (Fault disk)) = (d.config.volumes ≡ c.config.volumes) × (EachBlamed c.config v old new ⊎ (d.unsettled ≡ true))
GivesUp v c d old new (Err Down) = Unit {0}

-- The same of a call in which plexes may have changed before: of the configuration before it.
abbrev pub FaultsBy : {T : Type 0} → ℕ → Config → Inner → Meaning → Meaning → Result T ShelfError → Type 0
FaultsBy v c d old new (Ok x) = Unit {0}
FaultsBy v c d old new (Err (Fault disk)) = EachBlamed c v old new ⊎ (d.unsettled ≡ true)
FaultsBy v c d old new (Err Down) = Unit {0}

-- a fault comes only where a commit is missed
abbrev pub FaultMisses : {T : Type 0} → Inner → Result T ShelfError → Type 0
FaultMisses d (Ok x) = Unit {0}
FaultMisses d (Err (Fault disk)) = d.unsettled ≡ true
FaultMisses d (Err Down) = Unit {0}

-- no commit is missed, unless no serial is left for one
abbrev pub MissesNone : Inner → Type 0
MissesNone c = c.unsettled ≡ true → greatest ≤ c.config.serial
