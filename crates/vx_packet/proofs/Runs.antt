-- Two runs of bytes that are one.
use Rattle.std.proofs.Common.{◌≡◌, ◌≤◌, ℕ, ◌-◌, Bool, true, List, ◌++◌, length, take, drop, refl, ap, sym, ◌∙◌, arith}
use Rattle.std.proofs.lemmas.List.{take_all, length-drop, take-append-drop, take_at, drop_at, length-append}
use Rattle.std.specs.Prelude.{nat_eq}
use Rattle.std.specs.Cmp.Lexicographic.{same_text}
use Rattle.std.proofs.lemmas.Cmp.{nat_list_eq_equiv}
use lib.Pointwise.{pointwise}

-- texts that are compared
pub equal-text : (b : Bool) (a c : List ℕ) → b ≡ pointwise nat_eq a c → b ≡ true → a ≡ c
equal-text b a c is set = same_text a c (sym set ∙ is)

pub text-equal : (b : Bool) (a c : List ℕ) → b ≡ pointwise nat_eq a c → a ≡ c → b ≡ true
text-equal b a c is same = is ∙ ap (λ (t : List ℕ). pointwise nat_eq a t) (sym same) ∙ nat_list_eq_equiv.refl a

-- the rest behind a front
rest_of : (a p : List ℕ) → take (length p - length a) (drop (length a) p) ≡ drop (length a) p
rest_of a p = take_all (length p - length a) (drop (length a) p) (omega (arith, length-drop (length a) p))

pub runs-join : (a b p : List ℕ) → take (length a) p ≡ a → take (length p - length a) (drop (length a) p) ≡ b → a ++ b ≡ p
runs-join a b p first second =
    ap (λ (t : List ℕ). t ++ b) (sym first) ∙ ap (λ (t : List ℕ). take (length a) p ++ t) (sym second ∙ rest_of a p) ∙ take-append-drop (length a) p

pub runs-first : (a b p : List ℕ) → a ++ b ≡ p → take (length a) p ≡ a
runs-first a b p same = ap (take (length a)) (sym same) ∙ take_at a b (length a) refl

pub runs-second : (a b p : List ℕ) → a ++ b ≡ p → take (length p - length a) (drop (length a) p) ≡ b
runs-second a b p same = rest_of a p ∙ ap (drop (length a)) (sym same) ∙ drop_at a b (length a) refl

pub runs-room : (a b p : List ℕ) → a ++ b ≡ p → length a ≤ length p
runs-room a b p same = omega (arith, ap length (sym same), length-append a b)
