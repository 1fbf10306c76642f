-- A replicated volume group as its callers see it.
use Rattle.std.specs.Prelude.{◌≡◌, ◌≢◌, ℕ, ◌+◌, ◌*◌, ◌<◌, ◌≤◌, leb, ltb, if◌then◌else◌, Option, None, List, [], ◌∷◌, length, drop, slice_index, IsFalse, Contains}
use Rattle.vx_disk.specs.Maps.{maps_of}
use Rattle.vx_model.specs.declared.limits.TheConstants.{LINK_PLACES}
use Rattle.vx_model.specs.declared.units.Units.{Units}
use Rattle.vx_disk.specs.Shelf.{Meaning}
use Rattle.vx_overlay.specs.Pending.{Pending}
use Rattle.vx_dcm.specs.Places.{DcmLoaded, Maps}
use Rattle.vx_ringio.specs.Tracks.{RingLies}
use Rattle.vx_srl.specs.Views.{Log, head_number, count_to}
use Rattle.vx_srl.specs.declared.kept.Kept.{Kept}

pub record Core : Type 0 where
  -- the units of the shelf that it uses
  pub units : Units
  pub log : Log
  -- the change maps of its links
  pub maps : Maps
  -- the blocks that wait for their volumes, oldest first, and how many have room
  pub pending : Pending
  -- the number up to which the writes are in the volumes
  pub applied : ℕ
  -- the disk that halted it
  pub halted : Option ℕ

-- the unit of a data volume
abbrev pub unit_of : List ℕ → ℕ → ℕ
unit_of vols v = slice_index vols v

-- the number of the last write of the log
abbrev pub last_of : Core → ℕ
last_of c = head_number c.log

-- how many of the records of the log are in the volumes
abbrev pub applied_count : Core → ℕ
applied_count c = count_to c.log c.applied

-- the units exist, and none of them is another; the map unit has room for a map of each volume for each place of a link
pub record UnitsPlaced (units : Units) (m : Meaning) : Type 0 where
  pub log_exists : units.srl < m.units
  pub maps_exist : units.maps < m.units
  pub exist : (v : ℕ) → v < length units.vols → unit_of units.vols v < m.units
  pub apart : (v : ℕ) → v < length units.vols → unit_of units.vols v ≢ units.srl
  pub maps_apart : units.maps ≢ units.srl
  pub maps_aside : (v : ℕ) → v < length units.vols → unit_of units.vols v ≢ units.maps
  pub distinct : (v w : ℕ) → v < length units.vols → w < length units.vols → unit_of units.vols v ≡ unit_of units.vols w → v ≡ w
  pub maps_fit : LINK_PLACES * maps_of units.vols m ≤ m.size units.maps

-- how many blocks a data volume has, and 0 where there is none of this number
abbrev pub volume_size : List ℕ → Meaning → ℕ → ℕ
volume_size vols m v = if ltb v (length vols) then m.size (unit_of vols v) else 0

-- how many blocks of these records lie within their volumes
abbrev pub blocks_within : (ℕ → ℕ) → List Kept → ℕ
blocks_within size [] = 0
blocks_within size (k ∷ ks) = (if leb (k.head.block + k.head.count) (size k.head.vol) then k.head.count else 0) + blocks_within size ks

-- how many blocks wait of these records, and of those that are staged behind them
abbrev pub blocks_waiting : (ℕ → ℕ) → List Kept → List Kept → ℕ
blocks_waiting size ks [] = blocks_within size ks
blocks_waiting size ks (s ∷ ss) = blocks_within size ks + blocks_within size (s ∷ ss)

-- The log lies on its unit and the change maps on theirs, and each record of the log is in the volumes or waits. Where no write failed and the shelf is up, these records
-- are staged, and wait too.
pub record IsSoundWith (staged : List Kept) (c : Core) (m : Meaning) : Type 0 where
  pub placed : UnitsPlaced c.units m
  pub maps : DcmLoaded c.units m c.maps
  pub log_unit : c.log.unit ≡ c.units.srl
  pub lies : RingLies c.log.unit c.log.ring m
  pub idle : c.halted ≡ None → IsFalse m.down → c.log.staged ≡ staged
  pub low : c.log.header.low ≤ c.applied + 1
  pub known : c.applied ≤ head_number c.log
  pub room : c.pending.capacity ≡ c.log.ring
  pub waiting : length c.pending.entries ≡ blocks_waiting (volume_size c.units.vols m) (drop (applied_count c) c.log.held) staged

-- the same where nothing is staged
abbrev pub IsSound : Core → Meaning → Type 0
IsSound c m = IsSoundWith [] c m

-- a block of a data volume that a record which is not applied puts
pub record Waits (c : Core) (m : Meaning) (u b : ℕ) : Type 0 where
  pub kept : Kept
  pub among : Contains (drop (applied_count c) c.log.held) kept
  pub exists : kept.head.vol < length c.units.vols
  pub there : u ≡ unit_of c.units.vols kept.head.vol
  pub within : kept.head.block + kept.head.count ≤ volume_size c.units.vols m kept.head.vol
  pub first : kept.head.block ≤ b
  pub last : b < kept.head.block + kept.head.count
