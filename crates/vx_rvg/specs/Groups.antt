-- What the calls of a replicated volume group answer.
use Rattle.std.specs.Prelude.{◌≡◌, ℕ, ◌+◌, ◌<◌, ◌&&◌, Bool, min, max, Option, Some, None, Result, Ok, Err, List, [], ◌++◌, length, drop, ltb, leb, if◌then◌else◌, MatchOption, IsSome, IsTrue}
use Rattle.vx_model.specs.Answer.{is_too_large}
use Rattle.vx_model.specs.Content.{blocks_in, block_of}
use Rattle.vx_model.specs.declared.no.No.{No}
use Rattle.vx_model.specs.declared.no.No.TheVariants.{Halted, Size, Range, Limit, Device, Down}
use Rattle.vx_model.specs.declared.no.Counted.TheVariants.{Number}
use Rattle.vx_model.specs.declared.errors.Stop.{Stop}
use Rattle.vx_model.specs.declared.errors.Stop.TheVariants.{No as Refused, OutOfMemory}
use Rattle.vx_model.specs.declared.state.State.{State}
use Rattle.vx_model.specs.declared.units.Units.{Units}
use Rattle.vx_disk.specs.Disks.{Disks}
use Rattle.vx_disk.specs.Shelf.{Meaning}
use Rattle.vx_dcm.specs.Places.{Maps}
use Rattle.vx_overlay.specs.Pending.{newest}
use Rattle.vx_overlay.specs.declared.entry.Entry.{Entry}
use Rattle.vx_srl.specs.Calls.{sealed_log, staged_with}
use Rattle.vx_disk.specs.Causes.{DeviceCause}
use Rattle.vx_srl.specs.Headers.{new_header}
use Rattle.vx_srl.specs.Views.{Log, most_number, kept_record}
use Rattle.vx_srl.specs.declared.errors.SrlNo.{SrlNo}
use Rattle.vx_srl.specs.declared.errors.SrlNo.TheVariants.{Other}
use Rattle.vx_overlay.specs.Writes.{entries_at}
use Rattle.vx_rvg.specs.Views.{Core, last_of, unit_of}

-- whether a stamp and a number are left for each of so many more headers and writes
abbrev pub has_numbers : Core → ℕ → Bool
has_numbers c count = leb (c.log.header.stamp + count) most_number && leb (last_of c + count) most_number

-- a halted group answers 20 first
abbrev pub halted_or : Option ℕ → Option No → Option No
halted_or (Some disk) rest = Some (Halted disk)
halted_or None rest = rest

-- why a write of so many blocks is refused before it begins, where its volume has `size` blocks
abbrev pub write_refusal : Core → ℕ → ℕ → ℕ → Option No
write_refusal c size start count =
    halted_or c.halted
    (if is_too_large c.log.ring count then Some Size
    else if ltb size (start + count) then Some Range
    else if leb most_number (last_of c) then Some (Limit Number most_number)
    else None)

-- the same of a read, and of blocks that are stored without the log
abbrev pub read_refusal : Core → ℕ → ℕ → ℕ → Option No
read_refusal c size start count = halted_or c.halted (if ltb size (start + count) then Some Range else None)

-- the log with one write more, and the blocks that wait with its blocks behind them
abbrev pub with_logged : Log → ℕ → ℕ → List ℕ → Log
with_logged l vol start bytes = sealed_log (staged_with l (kept_record l vol start bytes))

abbrev pub core_with_write : Core → ℕ → ℕ → List ℕ → Core
core_with_write c vol start bytes = record c {
  log = with_logged c.log vol start bytes;
  pending = record c.pending { entries = c.pending.entries ++ entries_at vol start (blocks_in bytes) bytes };
}

-- a refusal of the log as one of the group
abbrev pub no_of : SrlNo → No
no_of (Other why) = why
no_of other = Size

-- a group after a refusal of a device call
abbrev pub core_halted : No → Core → Core
core_halted (Device disk) c = record c { halted = Some disk }
core_halted other c = c

-- a group after a call that a device call ended: it may be halted, and something may be staged in its log
pub record Ended (c : Core) (halted : Option ℕ) (c' : Core) : Type 0 where
  pub units : c'.units ≡ c.units
  pub ring : c'.log.ring ≡ c.log.ring
  pub header : c'.log.header ≡ c.log.header
  pub held : c'.log.held ≡ c.log.held
  pub maps : c'.maps ≡ c.maps
  pub pending : c'.pending ≡ c.pending
  pub applied : c'.applied ≡ c.applied
  pub halted_is : c'.halted ≡ halted

-- a device call failed: a 7 halts the group, and after a 6 the shelf is down
abbrev pub GroupFails : Core → Meaning → Meaning → Core → No → Type 0
GroupFails c old new c' (Device disk) = Ended c (Some disk) c' × DeviceCause old new (Device disk)
GroupFails c old new c' Down = Ended c c.halted c' × DeviceCause old new Down
GroupFails c old new c' other = ⊥

-- where the shelf is a rack, a refusal 7 names the disk of one of these volumes
abbrev pub BlamesVolumes : Option Disks → (vols : List ℕ) → No → Type 0
BlamesVolumes disks vols (Device disk) = IsSome disks → (v : ℕ) × ((v < length vols) × (disk ≡ unit_of vols v))
BlamesVolumes disks vols other = Unit {0}

-- a write that is not refused: its number, or a device call failed
abbrev pub Writes : Core → ℕ → ℕ → List ℕ → Meaning → Meaning → Core → Result ℕ No → Type 0
Writes c vol start bytes old new c' (Ok number) = (number ≡ last_of c + 1) × (c' ≡ core_with_write c vol start bytes) × (IsTrue new.down → ⊥)
Writes c vol start bytes old new c' (Err why) = GroupFails c old new c' why

abbrev pub WriteIs : Option No → Core → ℕ → ℕ → List ℕ → Meaning → Meaning → Core → Result ℕ No → Type 0
WriteIs (Some why) c vol start bytes old new c' result = (result ≡ Err why) × (c' ≡ c)
WriteIs None c vol start bytes old new c' result = Writes c vol start bytes old new c' result

-- a read that is not refused: the blocks, or a device call failed
abbrev pub ReadsGroup : Meaning → Meaning → Result (Unit {0}) No → Type 0
ReadsGroup old new (Ok done) = IsTrue new.down → ⊥
ReadsGroup old new (Err why) = DeviceCause old new why

abbrev pub ReadIs : Option No → Meaning → Meaning → Result (Unit {0}) No → Type 0
ReadIs (Some why) old new result = result ≡ Err why
ReadIs None old new result = ReadsGroup old new result

-- the newest of the blocks that wait stands over what was read, block by block
pub record IsPatched (entries : List Entry) (vol start : ℕ) (old new : List ℕ) : Type 0 where
  pub size : length new ≡ length old
  pub each : (k : ℕ) → k < blocks_in old → MatchOption (newest entries vol (start + k)) (block_of new k ≡ block_of old k) (λ bytes. block_of new k ≡ bytes)

-- the number up to which an apply brings the writes into the volumes
abbrev pub applied_through : Core → ℕ → ℕ
applied_through c count = max c.applied (min count (last_of c))

-- with the first n of the blocks that wait in their volumes, up to a number
abbrev pub core_applied : Core → ℕ → ℕ → Core
core_applied c to n = record c { pending = record c.pending { entries = drop n c.pending.entries }; applied = to }

-- an apply that is not refused: the number, with so many blocks brought in; or a device call failed
abbrev pub Applies : Core → ℕ → Meaning → Meaning → Core → Result ℕ No → Type 0
Applies c count old new c' (Ok number) = (number ≡ applied_through c count) × ((n : ℕ) × (c' ≡ core_applied c number n))
Applies c count old new c' (Err why) = GroupFails c old new c' why

abbrev pub ApplyIs : Option No → Core → ℕ → Meaning → Meaning → Core → Result ℕ No → Type 0
ApplyIs (Some why) c count old new c' result = (result ≡ Err why) × (c' ≡ c)
ApplyIs None c count old new c' result = Applies c count old new c' result

-- a group with nothing logged, and with these change maps
abbrev pub new_core : Units → State → ℕ → Maps → Core
new_core units state ring maps = record {
  units = units;
  log = record { unit = units.srl; ring = ring; header = new_header state 0; held = []; staged = [] };
  maps = maps;
  pending = record { capacity = ring; entries = [] };
  applied = 0;
  halted = None;
}

-- why a group was not made
abbrev pub MakeCause : Meaning → Meaning → Stop → Type 0
MakeCause old new (Refused why) = DeviceCause old new why
MakeCause old new OutOfMemory = Unit {0}
