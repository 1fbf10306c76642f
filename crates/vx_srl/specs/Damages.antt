-- The damaged blocks that a log names.
use Rattle.std.specs.Prelude.{◌≡◌, ◌⊎◌, ℕ, ◌+◌, List, length, All}
use Rattle.vx_wire.specs.Seals.{digest_of}
use Rattle.vx_srlfmt.specs.Kinds.{Top}
use Rattle.vx_srlfmt.specs.declared.header.Header.{Header}
use Rattle.vx_srlfmt.specs.declared.record.RecordHead.{RecordHead}
use Rattle.vx_srlfmt.specs.declared.record.Seen.TheVariants as seen
use Rattle.vx_disk.specs.Shelf.{Meaning}
use Rattle.vx_ringlog.specs.Chain.{block as block_of}
use Rattle.vx_ringlog.specs.Records.{with_firsts}
use Rattle.vx_ringio.specs.Classes.{class_of}
use Rattle.vx_ringio.specs.Reading.{GaveBlocks, SeesFront, SeesTop}
use Rattle.vx_ringio.specs.declared.top.TopSeen.TheVariants as top
use Rattle.vx_srl.specs.declared.kept.Kept.{Kept}

-- a read gave a block that is no header of the log
pub record SeesNoTop (unit ring block : ℕ) (m : Meaning) : Type 0 where
  pub bytes : List ℕ
  pub read : m.reads unit block bytes
  pub none : (h : Header) → class_of ring bytes ≡ Top h → ⊥

-- neither header block is a header, and the lower one that begins as one and is broken has these digests
abbrev pub HeadersDamaged : (unit ring block : ℕ) (stored computed : List ℕ) → Meaning → Type 0
HeadersDamaged unit ring block stored computed m =
    ((block ≡ 0) × SeesTop unit ring 0 m (top.Broken stored computed) × SeesNoTop unit ring 1 m)
    ⊎ ((block ≡ 1) × SeesTop unit ring 0 m top.Other × SeesTop unit ring 1 m (top.Broken stored computed))

-- a read gave the header of a record, which has this digest, and whose body begins with this block
pub record SeesOwner (unit ring block : ℕ) (stored : List ℕ) (m : Meaning) : Type 0 where
  pub place : ℕ
  pub head : RecordHead
  pub front : SeesFront unit (block_of ring place) m (seen.Record head)
  pub at : block ≡ block_of ring (place + 1)
  pub stored_is : stored ≡ head.digest

-- reads gave the body of a record at a place, and this is its digest
pub record SeesRecordBody (unit ring place : ℕ) (head : RecordHead) (computed : List ℕ) (m : Meaning) : Type 0 where
  pub body : List (List ℕ)
  pub count : length body ≡ head.count
  pub gave : GaveBlocks unit ring m (place + 1) body
  pub computed_is : computed ≡ digest_of (with_firsts head.firsts body)

-- the header of a record is damaged, or its body has another digest than its header
abbrev pub RecordDamaged : (unit ring block : ℕ) (stored computed : List ℕ) → Meaning → Type 0
RecordDamaged unit ring block stored computed m =
    SeesFront unit block m (seen.Damaged stored computed) ⊎ ((owner : SeesOwner unit ring block stored m) × SeesRecordBody unit ring owner.place owner.head computed m)

-- a block of the log has these digests: a header block where none is a header, or a block of a record
abbrev pub HasDamage : (unit ring block : ℕ) (stored computed : List ℕ) → Meaning → Type 0
HasDamage unit ring block stored computed m = HeadersDamaged unit ring block stored computed m ⊎ RecordDamaged unit ring block stored computed m

-- reads gave the headers of these records
abbrev pub SeesFronts : ℕ → ℕ → List Kept → Meaning → Type 0
SeesFronts unit ring records m = All (λ k. SeesFront unit (block_of ring k.place) m (seen.Record k.head)) records
