-- What a start looks at: records of the ring, one after another.
use Rattle.std.specs.Prelude.{◌≡◌, ℕ, suc, ◌+◌, ◌≤◌, ◌<◌, List, [], ◌∷◌, IsTrue}
use Rattle.vx_model.specs.declared.no.No.{No}
use Rattle.vx_model.specs.declared.no.No.TheVariants.{Damaged as DamagedNo}
use Rattle.vx_srlfmt.specs.Records.{CanSpellHead}
use Rattle.vx_srlfmt.specs.declared.header.Header.{Header}
use Rattle.vx_srlfmt.specs.declared.record.RecordHead.{RecordHead}
use Rattle.vx_srlfmt.specs.declared.record.Seen.TheVariants as seen
use Rattle.vx_disk.specs.Shelf.{Meaning}
use Rattle.vx_ringlog.specs.Cells.{RingImage as Kinds}
use Rattle.vx_ringlog.specs.Chain.{block, width, total, Takes, HasBody, Scan}
use Rattle.vx_ringlog.specs.Records.{Era, era_of, Record, Genuine}
use Rattle.vx_disk.specs.Causes.{DeviceCause}
use Rattle.vx_ringio.specs.Reading.{ReadsAs, SeesFront}
use Rattle.vx_srl.specs.Damages.{RecordDamaged, SeesRecordBody}
use Rattle.vx_srl.specs.Rings.{heads_of, kept_heads}
use Rattle.vx_srl.specs.declared.kept.Kept.{Kept}
use Rattle.vx_srl.specs.declared.scan.Found.{Found}
use Rattle.vx_srl.specs.declared.scan.Found.TheVariants.{Taken, End, Broken}

-- the header is taken as number n behind a record of incarnation prev
pub record MayFollow (e : Era) (n prev : ℕ) (r : RecordHead) : Type 0 where
  pub number : r.number ≡ n
  pub run : r.run ≡ e.run
  pub line : r.line ≡ e.line
  pub not_below : prev ≤ r.incarnation
  pub not_above : r.incarnation ≤ e.incarnation

-- what is found at a place, by the records that a scan from there takes
abbrev pub FindsByScan : List Record → Found → Type 0
FindsByScan [] End = Unit {0}
FindsByScan [] other = ⊥
FindsByScan (r ∷ rs) (Taken head) = head ≡ r.head
FindsByScan (r ∷ rs) other = ⊥

-- a record that is taken stands there, with its body
abbrev pub StandsThere : ℕ → Kinds → Era → ℕ → ℕ → ℕ → Found → Type 0
StandsThere ring c e p n prev (Taken head) = (r : Record) × (r.head ≡ head) × Takes e n prev (c (block ring p)) r × HasBody ring c (suc p) r.body
StandsThere ring c e p n prev End = Unit {0}
StandsThere ring c e p n prev (Broken at stored computed) = Unit {0}

-- the body of a record that is taken stands from place p on
abbrev pub BodyStands : ℕ → Kinds → ℕ → Found → Type 0
BodyStands ring c p (Taken head) = (r : Record) × (r.head ≡ head) × Genuine r × HasBody ring c p r.body
BodyStands ring c p End = Unit {0}
BodyStands ring c p (Broken at stored computed) = Unit {0}

-- only this record is taken
abbrev pub IsOf : RecordHead → Found → Type 0
IsOf head (Taken taken) = taken ≡ head
IsOf head End = Unit {0}
IsOf head (Broken at stored computed) = Unit {0}

-- the digests of a broken block differ
abbrev pub Differ : Found → Type 0
Differ (Taken head) = Unit {0}
Differ End = Unit {0}
Differ (Broken at stored computed) = stored ≡ computed → ⊥

-- a record that is taken has the number n, and ends before the place of the first one
abbrev pub TakenFits : ℕ → ℕ → Found → Type 0
TakenFits left n (Taken head) = CanSpellHead head × (head.number ≡ n) × (head.count < left)
TakenFits left n End = Unit {0}
TakenFits left n (Broken at stored computed) = Unit {0}

-- what reads gave of a record that is taken, and of a broken block
abbrev pub IsShown : ℕ → ℕ → ℕ → Meaning → Found → Type 0
IsShown unit ring place m (Taken head) = SeesFront unit (block ring place) m (seen.Record head)
IsShown unit ring place m End = Unit {0}
IsShown unit ring place m (Broken at stored computed) = RecordDamaged unit ring at stored computed m

-- what reads gave of the body of a record at a place, where it is broken
abbrev pub BodyShown : ℕ → ℕ → ℕ → RecordHead → Meaning → Found → Type 0
BodyShown unit ring place head m (Taken taken) = Unit {0}
BodyShown unit ring place head m End = Unit {0}
BodyShown unit ring place head m (Broken at stored computed) = (at ≡ block ring (place + 1)) × (stored ≡ head.digest) × SeesRecordBody unit ring place head computed m

-- these records stand one behind another, each with its body
abbrev pub Chained : ℕ → Kinds → Era → ℕ → ℕ → ℕ → List Record → Type 0
Chained ring c e p n prev [] = Unit {0}
Chained ring c e p n prev (r ∷ rs) = Takes e n prev (c (block ring p)) r × HasBody ring c (suc p) r.body × Chained ring c e (p + width r) (suc n) r.incarnation rs

-- a scan of the ring behind a header takes these records
pub record Scans (unit ring : ℕ) (h : Header) (rs : List Record) (m : Meaning) : Type 0 where
  pub kinds : Kinds
  pub reads : ReadsAs unit ring kinds m
  pub scan : Scan ring kinds (era_of h) h.place h.low h.floor rs
  pub fits : total rs ≤ ring

-- the records that were taken stand in the ring
pub record AreChained (unit ring : ℕ) (h : Header) (records : List Kept) (m : Meaning) : Type 0 where
  pub each : (c : Kinds) → ReadsAs unit ring c m → (rs : List Record) × (heads_of rs ≡ kept_heads records) × Chained ring c (era_of h) h.place h.low h.floor rs

-- why a scan is refused: a device call failed, or a block of a record is damaged, which it is not where a scan takes records
abbrev pub ScanCause : ℕ → ℕ → Header → Meaning → Meaning → No → Type 0
ScanCause unit ring h old new (DamagedNo u at stored computed) =
    (u ≡ unit) × (stored ≡ computed → ⊥) × (IsTrue old.tells → RecordDamaged unit ring at stored computed old) × ((rs : List Record) → Scans unit ring h rs old → ⊥)
ScanCause unit ring h old new why = DeviceCause old new why
