-- A plex that may be detached.
use Rattle.std.proofs.Common.{◌≡◌, ◌≢◌, ◌⊎◌, inl, inr, ℕ, zero, suc, ◌+◌, ◌-◌, ◌<◌, ◌≤◌, Bool, true, false, IsTrue, Some, None, List, [], ◌∷◌, length, set, get_or, get_or-set_same, get_or-set_other, Result, Ok, Err, OnOk, refl, ap, sym, ◌∙◌, subst, arith}
use Rattle.std.specs.Prelude.{◌&&◌, ◌||◌, ◌==◌, not, nat_le, nat_lt, if◌then◌else◌}
use Rattle.std.proofs.lemmas.Bool.{and_parts, eq-eqb, cases_eq, cases_lt, lt-ltb}
use Rattle.vx_config.specs.Checks.{plexes_of}
use Rattle.vx_disk.specs.Blocks.{bit_at}
use Rattle.vx_disk.specs.declared.shelf.ShelfError.{ShelfError}
use Rattle.vx_model.specs.declared.no.No.{No}
use Rattle.vx_config.specs.Table.{greatest}
use Rattle.vx_config.specs.declared.config.Config.{Config}
use Rattle.vx_volume.specs.Plexes.{active}
use Rattle.vx_volume.specs.Sets.{bits}
use Rattle.vx_volume.proofs.BitLemmas.{bit_of}
use Rattle.vx_kept.specs.States.{AreOn, SomeLeft}
use Rattle.vx_kept.proofs.Chosen.{active_volumes}
use Rattle.vx_group.specs.Dets.{any_below, det_refusal, is_other, margin}
use Rattle.vx_group.specs.Moves.{AreOff}

-- ---- no refusal

all_no : (a b d e : Bool) (n1 n2 n3 n4 : No) → (if a then Some n1 else (if b then Some n2 else (if d then Some n3 else (if e then Some n4 else None)))) ≡ None → (a ≡ false) × (b ≡ false) × (d ≡ false) × (e ≡ false)
all_no true b d e n1 n2 n3 n4 is = absurd (let clash : Some n1 ≡ None = is in cc)
all_no false true d e n1 n2 n3 n4 is = absurd (let clash : Some n2 ≡ None = is in cc)
all_no false false true e n1 n2 n3 n4 is = absurd (let clash : Some n3 ≡ None = is in cc)
all_no false false false true n1 n2 n3 n4 is = absurd (let clash : Some n4 ≡ None = is in cc)
all_no false false false false n1 n2 n3 n4 is = (refl, refl, refl, refl)

or_cases : (a b : Bool) → a || b ≡ true → (a ≡ true) ⊎ (b ≡ true)
or_cases true b is = inl refl
or_cases false b is = inr is

pub find_below : (test : ℕ → Bool) (n : ℕ) → any_below test n ≡ true → (q : ℕ) × (test q ≡ true)
find_below test zero is = absurd (let clash : false ≡ true = is in cc)
find_below test (suc n) is = elim (or_cases (any_below test n) (test n) is) [ inl below ↦ find_below test n below | inr here ↦ (n, here) ]

and_not : (a b : Bool) → a && not b ≡ false → a ≡ true → b ≡ true
and_not true true is on = refl
and_not true false is on = absurd (let clash : true ≡ false = is in cc)
and_not false b is on = absurd (let clash : false ≡ true = on in cc)

module _ (c : Config) (v p : ℕ) (may : det_refusal c v p ≡ None) where
  pub may_other : IsTrue (active c v p) → (q : ℕ) × (is_other c v p q ≡ true)
  may_other is_on = find_below (is_other c v p) (plexes_of c v) (and_not (active c v p) (any_below (is_other c v p) (plexes_of c v)) (all_no (nat_le (length c.volumes) v) (nat_le (plexes_of c v) p) (active c v p && not (any_below (is_other c v p) (plexes_of c v))) (nat_lt (greatest - margin) c.serial) _ _ _ _ may).2 is_on)

  pub may_serial : c.serial < greatest
  may_serial = elim (cases_lt (greatest - margin) c.serial) [
    | inl lt ↦ absurd (let clash : true ≡ false = sym (lt-ltb (greatest - margin) c.serial lt) ∙ (all_no (nat_le (length c.volumes) v) (nat_le (plexes_of c v) p) (active c v p && not (any_below (is_other c v p) (plexes_of c v))) (nat_lt (greatest - margin) c.serial) _ _ _ _ may).3 in cc)
    | inr le ↦ omega (arith, le)
  ]

  -- as many are left as the margin says
  pub may_margin : c.serial ≤ greatest - margin
  may_margin = elim (cases_lt (greatest - margin) c.serial) [
    | inl lt ↦ absurd (let clash : true ≡ false = sym (lt-ltb (greatest - margin) c.serial lt) ∙ (all_no (nat_le (length c.volumes) v) (nat_le (plexes_of c v) p) (active c v p && not (any_below (is_other c v p) (plexes_of c v))) (nat_lt (greatest - margin) c.serial) _ _ _ _ may).3 in cc)
    | inr le ↦ le
  ]

  -- so many serials are left that a commit uses less
  pub may_room : c.serial + 9 < greatest
  may_room = elim (cases_lt (greatest - margin) c.serial) [
    | inl lt ↦ absurd (let clash : true ≡ false = sym (lt-ltb (greatest - margin) c.serial lt) ∙ (all_no (nat_le (length c.volumes) v) (nat_le (plexes_of c v) p) (active c v p && not (any_below (is_other c v p) (plexes_of c v))) (nat_lt (greatest - margin) c.serial) _ _ _ _ may).3 in cc)
    | inr le ↦ omega (arith, le)
  ]

-- ---- the set of one plex

abbrev pub no_flags : List Bool
no_flags = false ∷ false ∷ false ∷ false ∷ false ∷ false ∷ false ∷ false ∷ []

-- a list of these alone
abbrev all_off : List Bool → Type 0
all_off [] = Unit {0}
all_off (b ∷ bs) = (b ≡ false) × all_off bs

off_in : (flags : List Bool) → all_off flags → (q : ℕ) → get_or flags q false ≡ false
off_in [] off q = refl
off_in (b ∷ bs) off zero = off.0
off_in (b ∷ bs) off (suc q) = off_in bs off.1 q

flag_off : (q : ℕ) → get_or no_flags q false ≡ false
flag_off q = off_in no_flags (refl, (refl, (refl, (refl, (refl, (refl, (refl, (refl, tt)))))))) q

module _ (p value : ℕ) (lt : p < 8) (is : value ≡ bits (set no_flags p true)) where
  pub bit_here : bit_at value p ≡ true
  bit_here = ap (λ (n : ℕ). bit_at n p) is ∙ bit_of (set no_flags p true) p ∙ get_or-set_same no_flags p true false lt

  pub bit_other : (q : ℕ) → q ≢ p → bit_at value q ≡ false
  bit_other q apart = ap (λ (n : ℕ). bit_at n q) is ∙ bit_of (set no_flags p true) q ∙ get_or-set_other no_flags p q true false apart ∙ flag_off q

  pub bit_only : (q : ℕ) → bit_at value q ≡ true → q ≡ p
  bit_only q in_it = elim (cases_eq q p) [ inl same ↦ same | inr apart ↦ absurd (let clash : false ≡ true = sym (bit_other q apart) ∙ in_it in cc) ]

  pub one_on : (c : Config) (v : ℕ) → IsTrue (active c v p) → AreOn c v value
  one_on c v is_on = record { each = λ q in_it. subst (λ (k : ℕ). IsTrue (active c v k)) (sym (bit_only q in_it)) is_on }

  pub one_left : (c : Config) (v : ℕ) → (q : ℕ) × (is_other c v p q ≡ true) → SomeLeft c v value
  one_left c v some =
      let both = and_parts (not (some.0 == p)) (active c v some.0) some.1 in
      record { plex = some.0; is_on = both.1; out = bit_other some.0 (λ same. not_same (some.0 == p) both.0 (eq-eqb some.0 p same)) }
    where
      not_same : (b : Bool) → not b ≡ true → b ≡ true → ⊥
      not_same true is two = let clash : false ≡ true = is in cc
      not_same false is two = let clash : false ≡ true = two in cc

pub off_by : {T : Type 0} (r : Result T ShelfError) (c : Config) (v p value : ℕ) → bit_at value p ≡ true → OnOk r (AreOff c v value) → OnOk r (active c v p ≡ false)
off_by (Ok x) c v p value bit off = off.each p bit
off_by (Err error) c v p value bit off = tt

pub left_volumes : (c d : Config) (v value : ℕ) → d.volumes ≡ c.volumes → SomeLeft c v value → SomeLeft d v value
left_volumes c d v value volumes left = record { plex = left.plex; is_on = active_volumes d c volumes v left.plex ∙ left.is_on; out = left.out }

pub on_volumes : (c d : Config) (v value : ℕ) → d.volumes ≡ c.volumes → AreOn c v value → AreOn d v value
on_volumes c d v value volumes on = record { each = λ q in_it. active_volumes d c volumes v q ∙ on.each q in_it }
