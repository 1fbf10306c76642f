-- What holds of a unit on which a ring log stands, between its calls and within them.
use Rattle.std.specs.Prelude.{◌≡◌, ◌⊎◌, ℕ, suc, ◌+◌, ◌<◌, ◌≤◌, List, [], ◌∷◌}
use Rattle.vx_srlfmt.specs.Kinds.{Kind, Front, Body, Damaged}
use Rattle.vx_srlfmt.specs.declared.record.RecordHead.{RecordHead}
use Rattle.vx_ringlog.specs.Cells.{Cells, May, read}
use Rattle.vx_ringlog.specs.Records.{Era, Record, Genuine}
use Rattle.vx_ringlog.specs.Chain.{block, width, ScanStops}

-- the place behind these records
abbrev pub after : ℕ → List Record → ℕ
after p [] = p
after p (r ∷ rs) = after (p + width r) rs

-- the number behind them
abbrev pub next : ℕ → List Record → ℕ
next n [] = n
next n (r ∷ rs) = next (suc n) rs

-- the incarnation of the last of them
abbrev pub last : ℕ → List Record → ℕ
last prev [] = prev
last prev (r ∷ rs) = last r.incarnation rs

-- a crash leaves v in block b
abbrev pub Sure : Cells → ℕ → Kind → Type 0
Sure u b v = (w : Kind) → May u b w → w ≡ v

-- a crash leaves these body blocks from place p on
abbrev pub SureBody : ℕ → Cells → ℕ → List (List ℕ) → Type 0
SureBody size u p [] = Unit {0}
SureBody size u p (b ∷ bs) = Sure u (block size p) (Body b) × SureBody size u (suc p) bs

-- the bodies of these records
abbrev pub SureBodies : ℕ → Cells → ℕ → List Record → Type 0
SureBodies size u p [] = Unit {0}
SureBodies size u p (r ∷ rs) = SureBody size u (suc p) r.body × SureBodies size u (p + width r) rs

-- these records, with their headers
abbrev pub SureAll : ℕ → Cells → ℕ → List Record → Type 0
SureAll size u p [] = Unit {0}
SureAll size u p (r ∷ rs) = Sure u (block size p) (Front r.head) × SureBody size u (suc p) r.body × SureAll size u (p + width r) rs

-- the record is of the era's line, and its body is the one of its header
pub record OfLine (e : Era) (r : Record) : Type 0 where
  pub line : r.line ≡ e.line
  pub genuine : Genuine r

-- the records are of this era, their numbers follow, and their incarnations do not fall
abbrev pub RecordsFit : Era → ℕ → ℕ → List Record → Type 0
RecordsFit e n prev [] = Unit {0}
RecordsFit e n prev (r ∷ rs) = (r.number ≡ n) × (r.run ≡ e.run) × OfLine e r × (prev ≤ r.incarnation) × (r.incarnation ≤ e.incarnation) × RecordsFit e (suc n) r.incarnation rs

-- the records were made since the last start
abbrev pub Now : Era → List Record → Type 0
Now e [] = Unit {0}
Now e (r ∷ rs) = (r.incarnation ≡ e.incarnation) × Now e rs

-- no record is of a later start or run, and those of this start and run have numbers below n
pub record TameValue (e : Era) (n : ℕ) (v : Kind) : Type 0 where
  pub whole : v ≡ Damaged → ⊥
  pub incarnation : (r : RecordHead) → v ≡ Front r → r.incarnation ≤ e.incarnation
  pub run : (r : RecordHead) → v ≡ Front r → r.run ≤ e.run
  pub fresh : (r : RecordHead) → v ≡ Front r → r.incarnation ≡ e.incarnation → r.run ≡ e.run → r.number < n

-- of each value that any block may have
abbrev pub Tame : Cells → Era → ℕ → Type 0
Tame u e n = (b : ℕ) (v : Kind) → May u b v → TameValue e n v

-- the scan ends behind the last record held: that one is of this start, or the block behind it is none that is taken
abbrev pub End : ℕ → Cells → Era → ℕ → ℕ → ℕ → Type 0
End size u e p n prev = (prev ≡ e.incarnation) ⊎ ((v : Kind) → May u (block size p) v → ScanStops e n prev v)

-- a read gives these body blocks from place p on
abbrev pub ReadBody : ℕ → Cells → ℕ → List (List ℕ) → Type 0
ReadBody size u p [] = Unit {0}
ReadBody size u p (b ∷ bs) = (read u (block size p) ≡ Body b) × ReadBody size u (suc p) bs

-- the bodies of these records
abbrev pub ReadBodies : ℕ → Cells → ℕ → List Record → Type 0
ReadBodies size u p [] = Unit {0}
ReadBodies size u p (r ∷ rs) = ReadBody size u (suc p) r.body × ReadBodies size u (p + width r) rs

-- their headers
abbrev pub ReadFronts : ℕ → Cells → ℕ → List Record → Type 0
ReadFronts size u p [] = Unit {0}
ReadFronts size u p (r ∷ rs) = (read u (block size p) ≡ Front r.head) × ReadFronts size u (p + width r) rs

-- the bodies stand, and each header stands or is still a block at which the scan ends
abbrev pub Prepared : ℕ → Cells → Era → ℕ → ℕ → ℕ → List Record → Type 0
Prepared size u e p n prev [] = (v : Kind) → May u (block size p) v → ScanStops e n prev v
Prepared size u e p n prev (s ∷ ss) = ((v : Kind) → May u (block size p) v → (v ≡ Front s.head) ⊎ ScanStops e n prev v) × SureBody size u (suc p) s.body × Prepared size u e (p + width s) (suc n) s.incarnation ss

-- between calls: `held` from place p and number n on behind incarnation floor, and then the bodies of `staged`
pub record ReadyRing (size : ℕ) (u : Cells) (e : Era) (p n floor : ℕ) (held staged : List Record) : Type 0 where
  pub room : after (after p held) staged ≤ p + size
  pub tame : Tame u e (next n held)
  pub sure : SureAll size u p held
  pub fits : RecordsFit e n floor held
  pub floor_below : floor ≤ e.incarnation
  pub end : End size u e (after p held) (next n held) (last floor held)
  pub staged_fits : RecordsFit e (next n held) (last floor held) staged
  pub now : Now e staged
  pub bodies : ReadBodies size u (after p held) staged
