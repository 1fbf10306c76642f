-- What the calls of a log do.
use Rattle.std.specs.Prelude.{◌≡◌, ℕ, ◌+◌, ◌-◌, ◌*◌, Bool, ltb, ◌&&◌, Some, Result, Ok, Err, length, [], ◌∷◌, ◌++◌, take, drop, slice_get, IsTrue}
use Rattle.vx_model.specs.declared.limits.TheConstants.{BLOCK}
use Rattle.vx_model.specs.declared.call.Update.{Update}
use Rattle.vx_model.specs.declared.no.No.TheVariants.{Damaged, Limit}
use Rattle.vx_model.specs.declared.no.Counted.TheVariants.{Number}
use Rattle.vx_wire.specs.Seals.{digest_of}
use Rattle.vx_srlfmt.specs.declared.header.Header.{Header}
use Rattle.vx_srlfmt.specs.declared.record.RecordHead.{RecordHead}
use Rattle.vx_disk.specs.Shelf.{Meaning}
use Rattle.vx_ringlog.specs.Chain.{block as block_of}
use Rattle.vx_ringlog.specs.Logs.{State, Call, Stage, Seal, Save, Restart}
use Rattle.vx_ringlog.specs.Records.{Record, given}
use Rattle.vx_disk.specs.Causes.{DeviceCause}
use Rattle.vx_srl.specs.Damages.{SeesRecordBody}
use Rattle.vx_srl.specs.Rings.{RingOn}
use Rattle.vx_srl.specs.Views.{Log, IsFront, head_number, next_of, most_number}
use Rattle.vx_srl.specs.declared.errors.SrlNo.{SrlNo}
use Rattle.vx_srl.specs.declared.errors.SrlNo.TheVariants.{Other}
use Rattle.vx_srl.specs.declared.kept.Kept.{Kept}

-- the calls, of whatever log stands on the shelf
abbrev pub staging : Record → State → Call
staging r s = Stage r

abbrev pub sealing : State → Call
sealing s = Seal

-- a header that keeps all but the first n records
abbrev pub saving : Header → ℕ → State → Call
saving g n s = Save g (take n s.held) (drop n s.held)

abbrev pub restarting : Header → State → Call
restarting g s = Restart g

-- a device call failed; nothing else refuses a call that writes the log once it has begun
abbrev pub LogCause : Meaning → Meaning → SrlNo → Type 0
LogCause old new (Other why) = DeviceCause old new why
LogCause old new other = ⊥

-- a number would go past its limit
abbrev pub log_no_number : SrlNo
log_no_number = Other (Limit Number most_number)

-- whether a stamp, a run and a number are left for an emptied log behind a record of this number
abbrev pub can_restart : Log → ℕ → Bool
can_restart l head = ltb l.header.stamp most_number && (ltb l.header.run most_number && ltb head most_number)

-- with one more record staged
abbrev pub staged_with : Log → Kept → Log
staged_with l k = record l { staged = l.staged ++ k ∷ [] }

-- the record was staged under the next number, or a device call failed
abbrev pub StagesRecord : Log → Kept → Meaning → Meaning → Log → Result ℕ SrlNo → Type 0
StagesRecord l k old new l' (Ok number) = (number ≡ next_of l) × (l' ≡ staged_with l k) × (IsTrue new.down → ⊥)
StagesRecord l k old new l' (Err why) = (l' ≡ l) × LogCause old new why

-- with all that is staged as part of the log
abbrev pub sealed_log : Log → Log
sealed_log l = record l { held = l.held ++ l.staged; staged = [] }

abbrev pub SealsStaged : Log → Meaning → Meaning → Log → Result ℕ SrlNo → Type 0
SealsStaged l old new l' (Ok number) = (number ≡ head_number (sealed_log l)) × (l' ≡ sealed_log l) × (IsTrue new.down → ⊥)
SealsStaged l old new l' (Err why) = (l' ≡ l) × LogCause old new why

-- with a new header, and without the first n records
abbrev pub saved : Log → Header → ℕ → Log
saved l g n = record l { header = g; held = drop n l.held }

abbrev pub restarted_log : Log → Header → Log
restarted_log l g = record l { header = g; held = []; staged = [] }

-- the header was written, or a device call failed
abbrev pub SavesHeader : Log → Log → Meaning → Meaning → Log → Result (Unit {0}) SrlNo → Type 0
SavesHeader l after old new l' (Ok done) = (l' ≡ after) × (IsTrue new.down → ⊥)
SavesHeader l after old new l' (Err why) = (l' ≡ l) × LogCause old new why

-- an update that has this record
abbrev pub update_with : Record → Update
update_with r = record { line = r.head.line; number = r.head.number; vol = r.head.vol; block = r.head.block; bytes = given r }

-- what a fetch of number n gives, of whatever log stands on the shelf: its record
pub record Fetches (l : Log) (n : ℕ) (m : Meaning) (update : Update) : Type 0 where
  pub each : (s : State) → RingOn l s m → IsTrue m.tells → (r : Record) × (slice_get s.held (n - l.header.low) ≡ Some r) × (update ≡ update_with r)

-- whatever stands on the shelf, an update that is given agrees with the header that is kept of it, and has its digest
pub record AgreesWithFront (l : Log) (n : ℕ) (update : Update) : Type 0 where
  pub head : RecordHead
  pub front : IsFront l n head
  pub line : update.line ≡ head.line
  pub number : update.number ≡ n
  pub vol : update.vol ≡ head.vol
  pub block : update.block ≡ head.block
  pub size : length update.bytes ≡ BLOCK * head.count
  pub digest : head.digest ≡ digest_of update.bytes

-- a body that differs is named by its first block, by the digest that is kept of it, and by that of the blocks that reads gave
abbrev pub NamesBody : Log → ℕ → Meaning → SrlNo → Type 0
NamesBody l n m (Other (Damaged unit block stored computed)) =
    (kept : Kept) × (slice_get l.held (n - l.header.low) ≡ Some kept) × (block ≡ block_of l.ring (kept.place + 1)) × (stored ≡ kept.head.digest)
    × (IsTrue m.tells → SeesRecordBody l.unit l.ring kept.place kept.head computed m)
NamesBody l n m other = Unit {0}

-- why a fetch of a number that is held is refused: a device call failed, or the digests of its body differ, which a log that stands there does not give
abbrev pub FetchCause : Log → Meaning → Meaning → SrlNo → Type 0
FetchCause l old new (Other (Damaged unit block stored computed)) =
    (unit ≡ l.unit) × (stored ≡ computed → ⊥) × ((s : State) → RingOn l s old → IsTrue old.tells → ⊥)
FetchCause l old new (Other why) = DeviceCause old new why
FetchCause l old new other = ⊥
