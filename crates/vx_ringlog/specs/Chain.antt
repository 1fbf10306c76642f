-- What the scan of a ring takes, and the log that an image has.
use Rattle.std.specs.Prelude.{◌≡◌, ◌⊎◌, ℕ, suc, ◌+◌, ◌%◌, ◌<◌, ◌≤◌, List, [], ◌∷◌, length}
use Rattle.vx_srlfmt.specs.Kinds.{Kind, Top, Front, Body, Damaged}
use Rattle.vx_srlfmt.specs.declared.header.Header.{Header}
use Rattle.vx_srlfmt.specs.declared.record.RecordHead.{RecordHead}
use Rattle.vx_ringlog.specs.Cells.{RingImage}
use Rattle.vx_ringlog.specs.Records.{Era, era_of, Record, Genuine}

-- the block of a place of a ring of `size` blocks: places are counted on without wrapping
abbrev pub block : ℕ → ℕ → ℕ
block size p = 2 + p % size

-- how many blocks a record takes
abbrev pub width : Record → ℕ
width r = suc (length r.body)

-- how many blocks these records take
abbrev pub total : List Record → ℕ
total [] = 0
total (r ∷ rs) = width r + total rs

-- the block is the header of a record that the scan takes as number n behind a record of incarnation prev
pub record Accepts (e : Era) (n prev : ℕ) (v : Kind) (r : RecordHead) : Type 0 where
  pub is : v ≡ Front r
  pub number : r.number ≡ n
  pub run : r.run ≡ e.run
  pub line : r.line ≡ e.line
  pub not_below : prev ≤ r.incarnation
  pub not_above : r.incarnation ≤ e.incarnation

-- it is that of r, whose body is the one of which it has count and digest
abbrev pub Takes : Era → ℕ → ℕ → Kind → Record → Type 0
Takes e n prev v r = Accepts e n prev v r.head × Genuine r

-- the scan ends at the block, which is not damaged
abbrev pub ScanStops : Era → ℕ → ℕ → Kind → Type 0
ScanStops e n prev v = ((r : RecordHead) → Accepts e n prev v r → ⊥) × (v ≡ Damaged → ⊥)

-- these body blocks stand from place p on
abbrev pub HasBody : ℕ → RingImage → ℕ → List (List ℕ) → Type 0
HasBody size i p [] = Unit {0}
HasBody size i p (b ∷ bs) = (i (block size p) ≡ Body b) × HasBody size i (suc p) bs

-- from place p and number n on the scan takes exactly these records, each with its body, and ends without a refusal
abbrev pub Scan : ℕ → RingImage → Era → ℕ → ℕ → ℕ → List Record → Type 0
Scan size i e p n prev [] = ScanStops e n prev (i (block size p))
Scan size i e p n prev (r ∷ rs) = Takes e n prev (i (block size p)) r × HasBody size i (suc p) r.body × Scan size i e (p + width r) (suc n) r.incarnation rs

-- h is the header of the greater stamp
abbrev pub IsGreaterTop : RingImage → Header → Type 0
IsGreaterTop i h = ((i 0 ≡ Top h) × ((g : Header) → i 1 ≡ Top g → g.stamp < h.stamp)) ⊎ ((i 1 ≡ Top h) × ((g : Header) → i 0 ≡ Top g → g.stamp < h.stamp))

-- the log of an image: its header and the records of its scan
pub record Starts (size : ℕ) (i : RingImage) (h : Header) (rs : List Record) : Type 0 where
  pub counts : IsGreaterTop i h
  pub scan : Scan size i (era_of h) h.place h.low h.floor rs

-- no record of the image is of a later start or run than e, and none is damaged
pub record Bounded (i : RingImage) (e : Era) : Type 0 where
  pub whole : (b : ℕ) → i b ≡ Damaged → ⊥
  pub incarnation : (b : ℕ) (r : RecordHead) → i b ≡ Front r → r.incarnation ≤ e.incarnation
  pub run : (b : ℕ) (r : RecordHead) → i b ≡ Front r → r.run ≤ e.run

-- a start of this image finds this header and these records; `bounded`, `room` and `floor_below` hold of what this program writes
pub record Recovers (size : ℕ) (i : RingImage) (h : Header) (rs : List Record) : Type 0 where
  pub starts : Starts size i h rs
  pub bounded : Bounded i (era_of h)
  pub room : total rs ≤ size
  pub floor_below : h.floor ≤ h.incarnation

-- an image has one log
abbrev pub LogIsUnique : Type 0
LogIsUnique = (size : ℕ) (i : RingImage) (h g : Header) (rs ss : List Record) → Starts size i h rs → Starts size i g ss → (h ≡ g) × (rs ≡ ss)
