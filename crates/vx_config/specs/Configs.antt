-- A configuration as bytes.
use Rattle.std.specs.Prelude.{◌≡◌, ℕ, ◌+◌, ◌-◌, ◌<◌, ◌≤◌, List, ◌++◌, length, All, IfSome, Ok, Err, Result, Option, Some, None, nat_le, if◌then◌else◌, sum_by, take}
use Rattle.vx_model.specs.declared.units.Units.{Units}
use Rattle.vx_config.specs.Table.{config, greatest}
use Rattle.vx_config.specs.declared.config.Config.{Config}
use Rattle.vx_config.specs.declared.entry.PlexEntry.{PlexEntry}
use Rattle.vx_config.specs.declared.entry.VolumeEntry.{VolumeEntry}
use Rattle.vx_config.specs.declared.stop.ConfigStop.{ConfigStop}
use Rattle.vx_config.specs.declared.wrong.Wrong.{Wrong}
use Rattle.vx_config.specs.declared.wrong.Wrong.TheVariants.{Left, Memory}
use Rattle.vx_config.specs.declared.stop.ConfigStop.TheVariants.{BadConfig, OutOfMemory}

-- the bytes of a configuration
unfoldable pub spelled_config : Config → List ℕ
spelled_config c = config.spell c

-- it has a spelling: each number fits its field, and each list its count
unfoldable pub HasSpelling : Config → Type 0
HasSpelling c = config.Fits c

-- these bytes are the spelling of this configuration
pub record IsSpelling (bytes : List ℕ) (c : Config) : Type 0 where
  pub has : HasSpelling c
  pub is : bytes ≡ spelled_config c

-- some configuration is spelled at the front of the bytes
pub record HasFront (bytes : List ℕ) : Type 0 where
  pub value : Config
  pub rest : List ℕ
  pub has : HasSpelling value
  pub is : bytes ≡ spelled_config value ++ rest

-- some configuration is spelled as the bytes are, up to this byte
pub record AgreesUpTo (at : ℕ) (bytes : List ℕ) : Type 0 where
  pub value : Config
  pub has : HasSpelling value
  pub same : take at (spelled_config value) ≡ take at bytes

-- read from the left, the first field that is wrong or missing begins at this byte
pub record IsFirstWrong (at : ℕ) (bytes : List ℕ) : Type 0 where
  pub left : ℕ
  pub inside : at + left ≡ length bytes
  pub wrong : config.read bytes ≡ Err left
  pub before : AgreesUpTo at bytes

-- the numbers of a replicated volume group fit their fields
pub record UnitsFit (u : Units) : Type 0 where
  pub srl : u.srl < 256
  pub maps : u.maps < 256
  pub vols : All (λ n. n < 256) u.vols

-- what a configuration has a spelling by, beside what its types tell
pub record CanSpell (c : Config) : Type 0 where
  pub serial : c.serial ≤ greatest
  pub disks : 0 < length c.disks
  pub rvg : IfSome c.rvg UnitsFit

abbrev pub plex_subdisks : PlexEntry → ℕ
plex_subdisks p = length p.subdisks

abbrev pub volume_subdisks : VolumeEntry → ℕ
volume_subdisks v = sum_by plex_subdisks v.plexes

-- the subdisks of all plexes
abbrev pub subdisk_count : Config → ℕ
subdisk_count c = sum_by volume_subdisks c.volumes

-- what is left of room for so many
abbrev pub left_of : ℕ → ℕ → Option ℕ
left_of room n = if nat_le n room then Some (room - n) else None

-- what a refusal to read says, where memory did not run out: no front of the bytes is a configuration, and where the
-- first wrong field is
pub record IsRefused (at : ℕ) (bytes : List ℕ) : Type 0 where
  pub none : HasFront bytes → ⊥
  pub place : IsFirstWrong at bytes

abbrev pub Stops : List ℕ → ConfigStop → Type 0
Stops bytes (BadConfig at) = IsRefused at bytes
Stops bytes OutOfMemory = Unit {0}

-- what is answered where so many bytes are left from the first wrong field on
abbrev pub stop_of : Wrong → ℕ → ConfigStop
stop_of (Left left) len = BadConfig (len - left)
stop_of Memory len = OutOfMemory

-- what is read is this configuration, in so many bytes, unless memory ran out
abbrev pub Reads : Result (Config × ℕ) ConfigStop → Config → ℕ → Type 0
Reads (Ok found) c n = (found.0 ≡ c) × (found.1 ≡ n)
Reads (Err (BadConfig at)) c n = ⊥
Reads (Err OutOfMemory) c n = Unit {0}
