-- What stands at a place of the ring, by the records that a scan from there takes.
use Rattle.std.proofs.Common.{◌≡◌, inr, Bool, IsTrue, ℕ, suc, ◌+◌, ◌<◌, ◌≤◌, List, [], ◌∷◌, length, Result, Ok, Err, IfOk, sym, ◌∙◌, ap, subst, arith}
use Rattle.vx_disk.specs.declared.shelf.ShelfError.{ShelfError}
use Rattle.vx_disk.specs.Shelf.{Goes, Meaning, Nothing}
use Rattle.vx_srlfmt.specs.Kinds.{Kind, Front, Damaged}
use Rattle.vx_srlfmt.specs.Records.{CanSpellHead}
use Rattle.vx_srlfmt.specs.declared.record.RecordHead.{RecordHead}
use Rattle.vx_srlfmt.specs.declared.record.Seen.TheVariants as seen
use Rattle.vx_ringlog.specs.Cells.{RingImage}
use Rattle.vx_ringlog.specs.Chain.{block, total, Accepts, HasBody, Scan}
use Rattle.vx_ringlog.specs.Records.{Era, Record, Genuine}
use Rattle.vx_ringio.specs.Reading.{ReadsAs, SeesFront}
use Rattle.vx_ringio.proofs.Seeing.{gave_before}
use Rattle.vx_srl.specs.Scans.{MayFollow, BodyShown, BodyStands, IsOf, IsShown, FindsByScan, StandsThere, TakenFits}
use Rattle.vx_srl.specs.declared.scan.Found.{Found}
use Rattle.vx_srl.specs.declared.scan.Found.TheVariants.{Taken, End, Broken}

-- where a damaged block stands a scan takes nothing, and does not end
pub damaged_agrees : (ring : ℕ) (c : RingImage) (e : Era) (p n prev : ℕ) (rs : List Record) (at : ℕ) (stored computed : List ℕ) → c (block ring p) ≡ Damaged → Scan ring c e p n prev rs → FindsByScan rs (Broken at stored computed)
damaged_agrees ring c e p n prev [] at stored computed is scan = scan.1 is
damaged_agrees ring c e p n prev (r ∷ rs) at stored computed is scan = cc (scan.0.0.is, is)

-- where no header of a record stands a scan ends
pub other_agrees : (ring : ℕ) (c : RingImage) (e : Era) (p n prev : ℕ) (rs : List Record) → ((r : RecordHead) → c (block ring p) ≡ Front r → ⊥) → Scan ring c e p n prev rs → FindsByScan rs End
other_agrees ring c e p n prev [] none scan = tt
other_agrees ring c e p n prev (r ∷ rs) none scan = none r.head scan.0.0.is

same_head : (v : Kind) (a b : RecordHead) → v ≡ Front a → v ≡ Front b → a ≡ b
same_head v a b one two = cc

-- the record that a scan takes first
follows : (e : Era) (n prev : ℕ) (v : Kind) (r : RecordHead) → Accepts e n prev v r → MayFollow e n prev r
follows e n prev v r accepts = record { number = accepts.number; run = accepts.run; line = accepts.line; not_below = accepts.not_below; not_above = accepts.not_above }

-- a header that is not taken, or has no room, ends it
pub passed_agrees : (ring : ℕ) (c : RingImage) (e : Era) (p n prev left : ℕ) (rs : List Record) (head : RecordHead) → c (block ring p) ≡ Front head → (MayFollow e n prev head → head.count < left → ⊥)
    → Scan ring c e p n prev rs → total rs ≤ left → FindsByScan rs End
passed_agrees ring c e p n prev left [] head is none scan fits = tt
passed_agrees ring c e p n prev left (r ∷ rs) head is none scan fits =
    let same : r.head ≡ head = same_head (c (block ring p)) r.head head scan.0.0.is is in
    let count : head.count ≡ length r.body = sym (ap (λ (h : RecordHead). h.count) same) ∙ scan.0.1.count in
    none (subst (λ (h : RecordHead). MayFollow e n prev h) same (follows e n prev (c (block ring p)) r.head scan.0.0)) (omega arith)

taken_agrees : (ring : ℕ) (c : RingImage) (e : Era) (p n prev : ℕ) (rs : List Record) (head : RecordHead) (found : Found) → c (block ring p) ≡ Front head → MayFollow e n prev head
    → ((r : Record) → r.head ≡ head → Genuine r → HasBody ring c (p + 1) r.body → found ≡ Taken head) → Scan ring c e p n prev rs → FindsByScan rs found
taken_agrees ring c e p n prev [] head found is may has scan =
    absurd (scan.0 head (record { is = is; number = may.number; run = may.run; line = may.line; not_below = may.not_below; not_above = may.not_above }))
taken_agrees ring c e p n prev (r ∷ rs) head found is may has scan =
    let same : r.head ≡ head = same_head (c (block ring p)) r.head head scan.0.0.is is in
    let next : suc p ≡ p + 1 = omega arith in
    let taken : found ≡ Taken head = has r same scan.0.1 (subst (λ (q : ℕ). HasBody ring c q r.body) next scan.1) in
    subst (λ (f : Found). FindsByScan (r ∷ rs) f) (sym taken) (sym same)

taken_stands : (ring : ℕ) (c : RingImage) (e : Era) (p n prev : ℕ) (head : RecordHead) (found : Found) → c (block ring p) ≡ Front head → MayFollow e n prev head
    → BodyStands ring c (p + 1) found → IsOf head found → StandsThere ring c e p n prev found
taken_stands ring c e p n prev head (Taken taken) is may stands of =
    let same : head ≡ stands.0.head = sym of ∙ sym stands.1 in
    let next : p + 1 ≡ suc p = omega arith in
    let front : c (block ring p) ≡ Front stands.0.head = is ∙ ap (λ (h : RecordHead). Front h) same in
    let accepts : Accepts e n prev (c (block ring p)) stands.0.head =
    subst (λ (h : RecordHead). Accepts e n prev (c (block ring p)) h) same
    (record { is = is; number = may.number; run = may.run; line = may.line; not_below = may.not_below; not_above = may.not_above }) in
    (stands.0, stands.1, (accepts, stands.2), subst (λ (q : ℕ). HasBody ring c q stands.0.body) next stands.3)
taken_stands ring c e p n prev head End is may stands of = tt
taken_stands ring c e p n prev head (Broken at stored computed) is may stands of = tt

taken_fits : (left n : ℕ) (head : RecordHead) (found : Found) → CanSpellHead head → head.number ≡ n → head.count < left → IsOf head found → TakenFits left n found
taken_fits left n head (Taken taken) can number low of = (subst CanSpellHead (sym of) can, ap (λ (h : RecordHead). h.number) of ∙ number, (let same : taken.count ≡ head.count = ap (λ (h : RecordHead). h.count) of in omega arith))
taken_fits left n head End can number low of = tt
taken_fits left n head (Broken at stored computed) can number low of = tt

-- of the answer of a look
module _ (unit ring : ℕ) (m : Meaning) (e : Era) (p n prev : ℕ) (head : RecordHead) (may : MayFollow e n prev head) (front : (c : RingImage) → ReadsAs unit ring c m → c (block ring p) ≡ Front head)
    (m' : Meaning) (stay : (c : RingImage) → ReadsAs unit ring c m → ReadsAs unit ring c m') where
  pub answer_agrees : (left : ℕ) (result : Result Found ShelfError)
      → IfOk result (λ found. (c : RingImage) (r : Record) → ReadsAs unit ring c m' → r.head ≡ head → Genuine r → HasBody ring c (p + 1) r.body → found ≡ Taken head)
      → IfOk result (λ found. (c : RingImage) (rs : List Record) → ReadsAs unit ring c m → Scan ring c e p n prev rs → total rs ≤ left → FindsByScan rs found)
  answer_agrees left (Ok found) has = λ c rs reads scan fits. taken_agrees ring c e p n prev rs head found (front c reads) may (λ r is genuine body. has c r (stay c reads) is genuine body) scan
  answer_agrees left (Err error) has = tt

  pub answer_stands : (result : Result Found ShelfError) → IfOk result (λ found. (c : RingImage) → ReadsAs unit ring c m' → BodyStands ring c (p + 1) found) → IfOk result (IsOf head)
      → IfOk result (λ found. (c : RingImage) → ReadsAs unit ring c m → StandsThere ring c e p n prev found)
  answer_stands (Ok found) stands of = λ c reads. taken_stands ring c e p n prev head found (front c reads) may (stands c (stay c reads)) of
  answer_stands (Err error) stands of = tt

pub answer_fits : (left n : ℕ) (head : RecordHead) (result : Result Found ShelfError) → CanSpellHead head → head.number ≡ n → head.count < left → IfOk result (IsOf head) → IfOk result (TakenFits left n)
answer_fits left n head (Ok found) can number low of = taken_fits left n head found can number low of
answer_fits left n head (Err error) can number low of = tt

-- ---- what reads gave

module _ (unit ring place : ℕ) (head : RecordHead) (m m' : Meaning) (goes : Goes Nothing m m') (up : IsTrue m'.down → ⊥) (front : SeesFront unit (block ring place) m (seen.Record head)) where
  shown_of : (found : Found) → IsOf head found → BodyShown unit ring place head m' found → IsShown unit ring place m found
  shown_of (Taken taken) of shown = subst (λ (h : RecordHead). SeesFront unit (block ring place) m (seen.Record h)) (sym of) front
  shown_of End of shown = tt
  shown_of (Broken at stored computed) of shown = inr (
    record { place = place; head = head; front = front; at = shown.0; stored_is = shown.1 },
    record { body = shown.2.body; count = shown.2.count; gave = gave_before unit ring m m' (place + 1) shown.2.body goes up shown.2.gave; computed_is = shown.2.computed_is },
  )

pub answer_shown : (unit ring place : ℕ) (head : RecordHead) (m m' : Meaning) → Goes Nothing m m' → (IsTrue m'.down → ⊥) → (IsTrue m.tells → SeesFront unit (block ring place) m (seen.Record head))
    → (result : Result Found ShelfError) → IfOk result (IsOf head) → IfOk result (λ found. IsTrue m'.tells → BodyShown unit ring place head m' found)
    → IfOk result (λ found. IsTrue m.tells → IsShown unit ring place m found)
answer_shown unit ring place head m m' goes up front (Ok found) of shown = λ tells. shown_of unit ring place head m m' goes up (front tells) found of (shown (subst (λ (t : Bool). IsTrue t) (sym goes.tells) tells))
answer_shown unit ring place head m m' goes up front (Err error) of shown = tt
