-- What reads of a log's blocks show.
use Rattle.std.specs.Prelude.{◌≡◌, ℕ, suc, ◌+◌, ◌<◌, ◌≤◌, true, IsTrue, List, [], ◌∷◌, drop, take}
use Rattle.vx_wire.specs.Seals.{digest_of}
use Rattle.vx_srlfmt.specs.Headers.{IsDamagedHeader, CanSpellHeader}
use Rattle.vx_srlfmt.specs.Kinds.{Kind, Top, Front, Damaged, Other}
use Rattle.vx_srlfmt.specs.Records.{CanSpellHead, IsSeen}
use Rattle.vx_srlfmt.specs.declared.header.Header.{Header}
use Rattle.vx_srlfmt.specs.declared.record.RecordHead.{RecordHead}
use Rattle.vx_srlfmt.specs.declared.record.Seen.{Seen}
use Rattle.vx_srlfmt.specs.declared.record.Seen.TheVariants as seen
use Rattle.vx_disk.specs.Shelf.{Meaning, Holds}
use Rattle.vx_model.specs.Content.{zero_block}
use Rattle.vx_ringlog.specs.Cells.{RingImage}
use Rattle.vx_ringlog.specs.Chain.{block}
use Rattle.vx_ringio.specs.Classes.{class_of, is_of_ring}
use Rattle.vx_ringio.specs.declared.top.TopSeen.{TopSeen}
use Rattle.vx_ringio.specs.declared.top.TopSeen.TheVariants as top

-- the shelf tells its contents, and reads give blocks of these classes
pub record ReadsAs (unit ring : ℕ) (c : RingImage) (m : Meaning) : Type 0 where
  pub tells : IsTrue m.tells
  pub each : (b : ℕ) (v : List ℕ) → b < ring + 2 → m.reads unit b v → class_of ring v ≡ c b

-- the same of whatever a crash leaves
pub record LeavesAs (unit ring : ℕ) (c : RingImage) (m : Meaning) : Type 0 where
  pub tells : IsTrue m.tells
  pub each : (b : ℕ) (v : List ℕ) → b < ring + 2 → m.leaves unit b v → class_of ring v ≡ c b
  pub beyond : (b : ℕ) → ring + 2 ≤ b → c b ≡ Other

-- reads give zeros in the blocks below `upto`
pub record ReadsZero (unit upto : ℕ) (m : Meaning) : Type 0 where
  pub each : (b : ℕ) → b < upto → Holds m unit b zero_block

-- what a block is as a header of the log: a broken one begins as a header and its digest fails
abbrev pub IsTopSeen : ℕ → List ℕ → TopSeen → Type 0
IsTopSeen ring bytes (top.Valid h) = class_of ring bytes ≡ Top h
IsTopSeen ring bytes (top.Broken stored computed) =
    ((h : Header) → class_of ring bytes ≡ Top h → ⊥) × IsDamagedHeader bytes × (stored ≡ drop 480 bytes) × (computed ≡ digest_of (take 480 bytes))
IsTopSeen ring bytes top.Other = ((h : Header) → class_of ring bytes ≡ Top h → ⊥) × (IsDamagedHeader bytes → ⊥)

-- a header that was read is one of the ring, and can be spelled
abbrev pub TopIsOfRing : ℕ → TopSeen → Type 0
TopIsOfRing ring (top.Valid h) = CanSpellHeader h × (is_of_ring ring h ≡ true)
TopIsOfRing ring (top.Broken stored computed) = Unit {0}
TopIsOfRing ring top.Other = Unit {0}

-- a read gave a block that is this as a header
pub record SeesTop (unit ring block : ℕ) (m : Meaning) (seen : TopSeen) : Type 0 where
  pub bytes : List ℕ
  pub read : m.reads unit block bytes
  pub is : IsTopSeen ring bytes seen

-- the digests of a broken header differ
abbrev pub DigestsDiffer : TopSeen → Type 0
DigestsDiffer (top.Valid h) = Unit {0}
DigestsDiffer (top.Broken stored computed) = stored ≡ computed → ⊥
DigestsDiffer top.Other = Unit {0}

-- a read gave a block that is this as the header of a record
pub record SeesFront (unit block : ℕ) (m : Meaning) (front : Seen) : Type 0 where
  pub bytes : List ℕ
  pub read : m.reads unit block bytes
  pub is : IsSeen bytes front

-- what a block is as the header of a record
abbrev pub ShowsFront : Seen → Kind → Type 0
ShowsFront (seen.Record r) v = v ≡ Front r
ShowsFront (seen.Damaged stored computed) v = v ≡ Damaged
ShowsFront seen.Other v = ((r : RecordHead) → v ≡ Front r → ⊥) × (v ≡ Damaged → ⊥)

-- the digests of a damaged one differ
abbrev pub FrontDigestsDiffer : Seen → Type 0
FrontDigestsDiffer (seen.Record r) = Unit {0}
FrontDigestsDiffer (seen.Damaged stored computed) = stored ≡ computed → ⊥
FrontDigestsDiffer seen.Other = Unit {0}

-- the header of a record that was read can be spelled
abbrev pub FrontCanSpell : Seen → Type 0
FrontCanSpell (seen.Record r) = CanSpellHead r
FrontCanSpell (seen.Damaged stored computed) = Unit {0}
FrontCanSpell seen.Other = Unit {0}

-- P of each of these blocks and the block of its place, from place p on
abbrev pub EachPlace : (ℕ → List ℕ → Type 0) → ℕ → ℕ → List (List ℕ) → Type 0
EachPlace P ring p [] = Unit {0}
EachPlace P ring p (b ∷ bs) = P (block ring p) b × EachPlace P ring (suc p) bs

-- blocks of these classes were read from place p on
abbrev pub ShowsBlocks : ℕ → RingImage → ℕ → List (List ℕ) → Type 0
ShowsBlocks ring c p bs = EachPlace (λ at b. class_of ring b ≡ c at) ring p bs

-- reads gave these blocks from place p on
abbrev pub GaveBlocks : ℕ → ℕ → Meaning → ℕ → List (List ℕ) → Type 0
GaveBlocks unit ring m p bs = EachPlace (m.reads unit) ring p bs
