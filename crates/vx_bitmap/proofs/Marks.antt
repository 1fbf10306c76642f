-- Marks of regions in bytes, as one of them changes.
use Rattle.std.proofs.Common.{◌≡◌, ◌∙◌, ℕ, ◌+◌, ◌-◌, ◌/◌, ◌%◌, ◌^◌, ◌<◌, ◌≤◌, Bool, true, false, List, length, get_or, set, ⊎_elim, refl, sym, ap, subst, arith}
use Rattle.std.specs.Prelude.{◌==◌, ◌&&◌, leb, ltb, if◌then◌else◌}
use Rattle.std.proofs.lemmas.Bool.{cases_eq, cases_lt, eq-eqb, ne_eqb, lt-ltb, le-leb}
use Rattle.std.proofs.lemmas.Bool.Decides.{nat_tests}
use Rattle.std.proofs.lemmas.List.{get_or-set_same, get_or-set_other, set-get_or}
use Rattle.vx_bitmap.specs.Bits.{AllAre, ChangedBelow, Changed, bit, with_bit, is_among, is_marked}
use Rattle.vx_bitmap.proofs.Bytes.{bit-with_bit}

-- of two regions in one byte, their bits are one where they are
same_bit : (r s : ℕ) → s / 8 ≡ r / 8 → ((s % 8) == (r % 8)) ≡ (s == r)
same_bit r s here =
    ⊎_elim
    (λ (same : s ≡ r). eq-eqb (s % 8) (r % 8) (ap (λ (n : ℕ). n % 8) same) ∙ sym (eq-eqb s r same))
    (λ (other : s ≡ r → ⊥). ne_eqb (s % 8) (r % 8) (λ e. other (omega (arith, here, e))) ∙ sym (ne_eqb s r other))
    (cases_eq s r)

marked_set : (bytes : List ℕ) (r s : ℕ) (value : Bool) → r / 8 < length bytes → get_or bytes (r / 8) 0 < 256
    → is_marked (set bytes (r / 8) (with_bit (get_or bytes (r / 8) 0) (r % 8) value)) s ≡ (if s == r then value else is_marked bytes s)
marked_set bytes r s value low byte =
    ⊎_elim
    (λ (here : s / 8 ≡ r / 8).
    ap (λ (b : ℕ). bit b (s % 8)) (ap (λ (k : ℕ). get_or (set bytes (r / 8) (with_bit (get_or bytes (r / 8) 0) (r % 8) value)) k 0) here ∙ get_or-set_same bytes (r / 8) (with_bit (get_or bytes (r / 8) 0) (r % 8) value) 0 low)
    ∙ bit-with_bit (get_or bytes (r / 8) 0) (r % 8) (s % 8) value byte (omega arith) (omega arith)
    ∙ ap (λ (t : Bool). if t then value else bit (get_or bytes (r / 8) 0) (s % 8)) (same_bit r s here)
    ∙ ap (λ (k : ℕ). if s == r then value else bit (get_or bytes k 0) (s % 8)) (sym here))
    (λ (other : s / 8 ≡ r / 8 → ⊥).
    ap (λ (b : ℕ). bit b (s % 8)) (get_or-set_other bytes (r / 8) (s / 8) (with_bit (get_or bytes (r / 8) 0) (r % 8) value) 0 other)
    ∙ ap (λ (t : Bool). if t then value else is_marked bytes s) (sym (ne_eqb s r (λ e. other (ap (λ (n : ℕ). n / 8) e)))))
    (cases_eq (s / 8) (r / 8))

-- a bit that has the value already leaves its byte
kept_bit : (byte k : ℕ) (value : Bool) → bit byte k ≡ value → with_bit byte k value ≡ byte
kept_bit byte k true is = ap (λ (b : Bool). if b then byte else byte + 2 ^ k) is
kept_bit byte k false is = ap (λ (b : Bool). if b then byte - 2 ^ k else byte) is

-- ---- the tests of a run

-- none of them is below its start
pub below_start : (start end s : ℕ) → (is_among start end s && ltb s start) ≡ false
below_start start end s =
    ⊎_elim
    (λ (lt : s < start). let no : leb start s ≡ false = grind (arith, nat_tests) in ap (λ (b : Bool). (b && leb s end) && ltb s start) no)
    (λ (ge : start ≤ s). let no : ltb s start ≡ false = grind (arith, nat_tests) in ap (λ (b : Bool). (leb start s && leb s end) && b) no ∙ and_no (leb start s && leb s end))
    (cases_lt s start)
  where
    and_no : (b : Bool) → (b && false) ≡ false
    and_no true = refl
    and_no false = refl

-- all of them are below a number behind its end
pub below_end : (start end n s : ℕ) → end < n → (is_among start end s && ltb s n) ≡ is_among start end s
below_end start end n s past =
    ⊎_elim
    (λ (lt : s < n). let yes : ltb s n ≡ true = lt-ltb s n lt in ap (λ (b : Bool). (leb start s && leb s end) && b) yes ∙ and_yes (leb start s && leb s end))
    (λ (ge : n ≤ s). let no : leb s end ≡ false = grind (arith, nat_tests) in
    ap (λ (b : Bool). (leb start s && b) && ltb s n) no ∙ sides (leb start s) (ltb s n) ∙ sym (ap (λ (b : Bool). leb start s && b) no))
    (cases_lt s n)
  where
    and_yes : (b : Bool) → (b && true) ≡ b
    and_yes true = refl
    and_yes false = refl

    sides : (a b : Bool) → ((a && false) && b) ≡ (a && false)
    sides true b = refl
    sides false b = refl

-- one number further
further : (start end r s : ℕ) → (s ≡ r → ⊥) → (is_among start end s && ltb s (r + 1)) ≡ (is_among start end s && ltb s r)
further start end r s other =
    ap (λ (b : Bool). is_among start end s && b)
    (⊎_elim
    (λ (lt : s < r). lt-ltb s (r + 1) (omega (arith, lt)) ∙ sym (lt-ltb s r lt))
    (λ (ge : r ≤ s). let a : ltb s (r + 1) ≡ false = grind (arith, nat_tests) in let b : ltb s r ≡ false = grind (arith, nat_tests) in a ∙ sym b)
    (cases_lt s r))

here_now : (start end r : ℕ) → start ≤ r → r ≤ end → (is_among start end r && ltb r (r + 1)) ≡ true
here_now start end r first last = rw (le-leb start r first, le-leb r end last, lt-ltb r (r + 1) (omega arith)) refl

-- ---- a run within a block

pub record MarkedTo (start end : ℕ) (value : Bool) (n : ℕ) (old new : List ℕ) : Type 0 where
  pub changed : ChangedBelow start end value n 4096 (is_marked old) (is_marked new)
  pub still : AllAre start end value (is_marked old) → new ≡ old

pub marked_start : (block : List ℕ) (start end : ℕ) (value : Bool) → MarkedTo start end value start block block
marked_start block start end value = record {
  changed = record { each = λ s low. ap (λ (b : Bool). if b then value else is_marked block s) (sym (below_start start end s)) };
  still = λ all. refl;
}

pub marked_next : (old mid new : List ℕ) (start end r : ℕ) (value : Bool) → MarkedTo start end value r old mid → end < 4096 → (start ≤ r) × (r ≤ end) → length mid ≡ 512 → (byte : ℕ)
    → byte ≡ with_bit (get_or mid (r / 8) 0) (r % 8) value → get_or mid (r / 8) 0 < 256 → new ≡ set mid (r / 8) byte → MarkedTo start end value (r + 1) old new
marked_next old mid new start end r value before last within long byte is low made =
    let whole : new ≡ set mid (r / 8) (with_bit (get_or mid (r / 8) 0) (r % 8) value) = made ∙ ap (λ (b : ℕ). set mid (r / 8) b) is in
    subst (λ (bs : List ℕ). MarkedTo start end value (r + 1) old bs) (sym whole) (record {
      changed = record {
        each = λ s s_low.
            marked_set mid r s value (omega (arith, long, within.1, last)) low
            ∙ ⊎_elim
            (λ (same : s ≡ r).
            ap (λ (b : Bool). if b then value else is_marked mid s) (eq-eqb s r same)
            ∙ ap (λ (b : Bool). if b then value else is_marked old s) (sym (ap (λ (n : ℕ). is_among start end n && ltb n (r + 1)) same ∙ here_now start end r within.0 within.1)))
            (λ (other : s ≡ r → ⊥).
            ap (λ (b : Bool). if b then value else is_marked mid s) (ne_eqb s r other) ∙ before.changed.each s s_low
            ∙ ap (λ (b : Bool). if b then value else is_marked old s) (sym (further start end r s other)))
            (cases_eq s r);
      };
      still = λ all.
          let same : mid ≡ old = before.still all in
          let bit_is : bit (get_or mid (r / 8) 0) (r % 8) ≡ value = ap (λ (bs : List ℕ). is_marked bs r) same ∙ all.each r within.0 within.1 in
          ap (λ (b : ℕ). set mid (r / 8) b) (kept_bit (get_or mid (r / 8) 0) (r % 8) value bit_is) ∙ set-get_or mid (r / 8) 0 ∙ same;
    })

pub marked_end : (old new : List ℕ) (start end n : ℕ) (value : Bool) → MarkedTo start end value n old new → end < n → Changed start end value 4096 (is_marked old) (is_marked new)
marked_end old new start end n value to past = record {
  each = λ s low. to.changed.each s low ∙ ap (λ (b : Bool). if b then value else is_marked old s) (below_end start end n s past);
}
