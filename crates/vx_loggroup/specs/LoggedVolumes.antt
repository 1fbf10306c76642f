-- A group that keeps the dirty region logs of its volumes, between its calls.
use Rattle.std.specs.Prelude.{◌≡◌, ℕ, Bool, true, false, IsTrue, Some, List, length, slice_get, slice_index_or}
use Rattle.vx_disk.specs.Shelf.{Meaning}
use Rattle.vx_group.specs.Holding.{GroupStands, wide}
use Rattle.vx_group.specs.declared.group_core.GroupCore.{GroupCore}
use Rattle.vx_group.specs.Settles.{ReadsOne}
use Rattle.vx_logged.specs.Logged.{Known, LogOn}
use Rattle.vx_logs.specs.declared.logs.Logs.{Logs}

-- of each volume whether its plexes are said to be alike
abbrev pub is_alike : List Bool → ℕ → Bool
is_alike alike v = slice_index_or alike v false

-- The logs of a volume stand, and the maps know what its plexes miss, until logs are stopped for want of a serial; and where its plexes are said to be
-- alike each block of it reads as one value.
pub record VolumeStands (core : GroupCore) (v : ℕ) (l : Logs) (same stopped : Bool) (m : Meaning) : Type 0 where
  pub on : stopped ≡ false → LogOn core v l m
  pub maps : stopped ≡ false → Known core v l m
  pub alike : same ≡ true → (IsTrue m.down → ⊥) → ReadsOne (wide core).config v m

-- So it is of each volume of a group that stands.
pub record LoggedStands (core : GroupCore) (logs : List Logs) (alike : List Bool) (stopped : Bool) (m : Meaning) : Type 0 where
  pub group : GroupStands core m
  pub many : length logs ≡ length core.inner.config.volumes
  pub each : (v : ℕ) (l : Logs) → slice_get logs v ≡ Some l → VolumeStands core v l (is_alike alike v) stopped m

-- what a call on one volume keeps of each other one
pub record OthersStand (v : ℕ) (c : GroupCore) (s : Bool) (d : GroupCore) (t : Bool) (old new : Meaning) : Type 0 where
  pub each : (w : ℕ) (l : Logs) (alike : Bool) → (w ≡ v → ⊥) → VolumeStands c w l alike s old → VolumeStands d w l alike t new
