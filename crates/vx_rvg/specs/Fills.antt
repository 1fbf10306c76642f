-- What waits once the writes of a log are taken up, one after another.
use Rattle.std.specs.Prelude.{◌≡◌, ℕ, ◌+◌, IsTrue, List, length, take, slice_get, Some, All}
use Rattle.vx_model.specs.declared.no.No.{No}
use Rattle.vx_model.specs.declared.no.No.TheVariants.{Damaged}
use Rattle.vx_disk.specs.Shelf.{Meaning}
use Rattle.vx_overlay.specs.Writes.{entries_of}
use Rattle.vx_overlay.specs.declared.entry.Entry.{Entry}
use Rattle.vx_ringlog.specs.Chain.{block as block_of}
use Rattle.vx_ringlog.specs.Logs.{State}
use Rattle.vx_disk.specs.Causes.{DeviceCause}
use Rattle.vx_srl.specs.Rings.{RingOn}
use Rattle.vx_srl.specs.Damages.{SeesRecordBody}
use Rattle.vx_srl.specs.Views.{Log}
use Rattle.vx_srl.specs.declared.kept.Kept.{Kept}
use Rattle.vx_rvg.specs.Contents.{writes_of}
use Rattle.vx_rvg.specs.Stands.{IsWholeRecord}
use Rattle.vx_rvg.specs.Views.{blocks_within}

-- As many blocks wait as the first k records put within their volumes. Of whatever log stands on the shelf, they are the blocks of its
-- first k writes, which are whole.
pub record IsFilledTo (l : Log) (size : ℕ → ℕ) (m : Meaning) (k : ℕ) (entries : List Entry) : Type 0 where
  pub count : length entries ≡ blocks_within size (take k l.held)
  pub entries_are : (s : State) → RingOn l s m → IsTrue m.tells → entries ≡ entries_of size (writes_of (take k s.held))
  pub whole : (s : State) → RingOn l s m → IsTrue m.tells → All IsWholeRecord (take k s.held)

-- the block is the first one of the body of a record, whose digest is stored, and reads gave a body whose digest was computed
pub record NamesOne (l : Log) (block : ℕ) (stored computed : List ℕ) (m : Meaning) : Type 0 where
  pub place : ℕ
  pub kept : Kept
  pub there : slice_get l.held place ≡ Some kept
  pub at : block ≡ block_of l.ring (kept.place + 1)
  pub stored_is : stored ≡ kept.head.digest
  pub body : IsTrue m.tells → SeesRecordBody l.unit l.ring kept.place kept.head computed m

-- why a log is not read to its end: a body is damaged, which a log that stands there does not give, or a device call failed
abbrev pub FillCause : Log → Meaning → Meaning → No → Type 0
FillCause l old new (Damaged unit block stored computed) = (unit ≡ l.unit) × (stored ≡ computed → ⊥) × NamesOne l block stored computed old × ((s : State) → RingOn l s old → IsTrue old.tells → ⊥)
FillCause l old new other = DeviceCause old new other
