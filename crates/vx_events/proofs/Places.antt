-- The place of a site in the facts.
use Rattle.std.proofs.Common.{◌≡◌, ◌<◌, ℕ, List, length, refl, arith, Bool, true, false}
use Rattle.std.specs.Prelude.{Some, None, cond, nat_lt}
use Rattle.std.specs.List.{position, position_or_len}
use Rattle.std.specs.Str.{bytes_eq}
use Rattle.std.proofs.lemmas.Bool.Decides.{nat_tests}
use Rattle.vx_order.specs.declared.facts.SiteFacts.{SiteFacts}
use Rattle.vx_events.specs.Facts.{seat_of}

pub some_same : {A : Type 0} {a b : A} → Some a ≡ Some b → a ≡ b
some_same e = cc

pub never_some : {A : Type 0} {a : A} → None ≡ Some a → ⊥
never_some e = cc

within_by : (b : Bool) (n i : ℕ) → cond b (Some n) None ≡ Some i → (b ≡ true) × (n ≡ i)
within_by true n i e = (refl, cc)
within_by false n i e = absurd (cc)

-- a place that was found lies in the list
pub position_within : {A : Type 0} (p : A → Bool) (xs : List A) (i : ℕ) → position p xs ≡ Some i → i < length xs
position_within p xs i e =
    let both = within_by (nat_lt (position_or_len p xs) (length xs)) (position_or_len p xs) i e in
    below (position_or_len p xs) (length xs) i both.0 both.1
  where
    below : (n len i : ℕ) → nat_lt n len ≡ true → n ≡ i → i < len
    below n len i a b = grind (arith, nat_tests)

pub seat_within : (fs : List SiteFacts) (name : List ℕ) (s : ℕ) → seat_of fs name ≡ Some s → s < length fs
seat_within fs name s is = position_within (λ site. bytes_eq site.name name) fs s is
