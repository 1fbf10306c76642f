-- The writes of a group commit: they are staged one after another, and sealed together.
use Rattle.std.specs.Prelude.{◌≡◌, ℕ, ◌-◌, ltb, if◌then◌else◌, Option, Some, None, Result, Ok, Err, List, ◌++◌, length, take, All, IsTrue}
use Rattle.vx_model.specs.Content.{Write, blocks_in}
use Rattle.vx_model.specs.declared.no.No.{No}
use Rattle.vx_model.specs.declared.no.No.TheVariants.{Limit, Down}
use Rattle.vx_model.specs.declared.no.Counted.TheVariants.{Number}
use Rattle.vx_disk.specs.Causes.{DeviceCause}
use Rattle.vx_disk.specs.Shelf.{Meaning, Image}
use Rattle.vx_overlay.specs.Writes.{entries_at}
use Rattle.vx_ringlog.specs.Records.{Record}
use Rattle.vx_srl.specs.Calls.{sealed_log, staged_with}
use Rattle.vx_srl.specs.Views.{most_number, next_of, kept_record}
use Rattle.vx_rvg.specs.Contents.{writes_of}
use Rattle.vx_rvg.specs.Groups.{core_halted, halted_or, write_refusal}
use Rattle.vx_rvg.specs.Holdings.{Holding, with_writes}
use Rattle.vx_rvg.specs.Stands.{FoundAs, IsWholeRecord, StandsWith}
use Rattle.vx_rvg.specs.Stores.{refusal_or}
use Rattle.vx_rvg.specs.Views.{Core, blocks_within, last_of}

-- the group with one write more staged, whose blocks wait
abbrev pub with_staged : Core → ℕ → ℕ → List ℕ → Core
with_staged c vol start bytes = record c {
  log = staged_with c.log (kept_record c.log vol start bytes);
  pending = record c.pending { entries = c.pending.entries ++ entries_at vol start (blocks_in bytes) bytes };
}

-- the group with all that is staged as part of its log
abbrev pub with_sealed : Core → Core
with_sealed c = record c { log = sealed_log c.log }

-- the group where only so many of the blocks wait, the oldest ones
abbrev pub with_oldest : ℕ → Core → Core
with_oldest count c = record c { pending = record c.pending { entries = take count c.pending.entries } }

-- the group where the blocks of what is staged do not wait, on volumes of these sizes
abbrev pub without_staged : (ℕ → ℕ) → Core → Core
without_staged size c = with_oldest (length c.pending.entries - blocks_within size c.log.staged) c

-- where no number is left behind what is staged
abbrev pub number_refusal : Core → Option No
number_refusal c = if ltb most_number (next_of c.log) then Some (Limit Number most_number) else None

-- why a write of so many blocks is not staged: as a write is refused, or since no number is left behind what is staged
abbrev pub stage_refusal : Core → ℕ → ℕ → ℕ → Option No
stage_refusal c size start count = refusal_or (write_refusal c size start count) (number_refusal c)

-- why what is staged is not sealed: a call answered 7 before, or the shelf is down
abbrev pub seal_refusal : Core → Meaning → Option No
seal_refusal c m = halted_or c.halted (if m.down then Some Down else None)

-- a device call failed: a 7 halts the group, and all else is as it was
abbrev pub Halts : Core → Meaning → Meaning → Core → No → Type 0
Halts c old new c' why = (c' ≡ core_halted why c) × DeviceCause old new why

-- a write that is not refused is staged: the number that it will have, or a device call failed
abbrev pub Stages : Core → ℕ → ℕ → List ℕ → Meaning → Meaning → Core → Result ℕ No → Type 0
Stages c vol start bytes old new c' (Ok number) = (number ≡ next_of c.log) × (c' ≡ with_staged c vol start bytes) × (IsTrue new.down → ⊥)
Stages c vol start bytes old new c' (Err why) = Halts c old new c' why

abbrev pub StageIs : Option No → Core → ℕ → ℕ → List ℕ → Meaning → Meaning → Core → Result ℕ No → Type 0
StageIs (Some why) c vol start bytes old new c' result = (result ≡ Err why) × (c' ≡ c)
StageIs None c vol start bytes old new c' result = Stages c vol start bytes old new c' result

-- what is staged is sealed: the number of the last of it, or a device call failed
abbrev pub Seals : Core → Meaning → Meaning → Core → Result ℕ No → Type 0
Seals c old new c' (Ok number) = (number ≡ last_of (with_sealed c)) × (c' ≡ with_sealed c) × (IsTrue new.down → ⊥)
Seals c old new c' (Err why) = Halts c old new c' why

abbrev pub SealIs : Option No → Core → Meaning → Meaning → Core → Result ℕ No → Type 0
SealIs (Some why) c old new c' result = (result ≡ Err why) × (c' ≡ c)
SealIs None c old new c' result = Seals c old new c' result

-- A group that holds this and has these writes staged behind it, in their order: their blocks wait, and its log does not have them yet.
pub record HasStaged (xs : List Write) (core : Core) (h : Holding) (m : Meaning) : Type 0 where
  pub records : List Record
  pub are : writes_of records ≡ xs
  pub whole : All IsWholeRecord records
  pub stands : StandsWith records core h m

-- Of whatever the group held and had staged: an image in a call has what it held, with a first part of what was staged, which may be none or all.
pub record Committing (core : Core) (m : Meaning) (i : Image) : Type 0 where
  pub each : (xs : List Write) (h : Holding) → HasStaged xs core h m → (k : ℕ) × FoundAs core i (with_writes (take k xs) h)
