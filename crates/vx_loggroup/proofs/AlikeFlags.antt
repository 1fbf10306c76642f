-- Of which volumes the plexes are alike behind an import, one after the other.
use Rattle.std.proofs.Common.{◌≡◌, ◌⊎◌, ◌∙◌, inl, inr, ℕ, ◌+◌, ◌<◌, ◌≤◌, Bool, true, false, List, length, replicate, set, get_or-set_same, get_or-set_other, length-set, sym, subst, arith}
use Rattle.std.proofs.lemmas.Bool.{cases_eq, cases_lt}
use Rattle.std.proofs.lemmas.List.{get_or-replicate, get_or_past, length-replicate}
use Rattle.vx_kept.specs.Cleans.{is_unsure}
use Rattle.vx_logimport.specs.Rests.{rests}
use Rattle.vx_logimport.specs.declared.rested.Rested.{Rested}
use Rattle.vx_loggroup.specs.LoggedVolumes.{is_alike}

-- of those below n it is noted
pub record FlagsSoFar (stopped : List Bool) (r : Rested) (n : ℕ) (alike : List Bool) : Type 0 where
  pub long : length alike ≡ 32
  pub why : (v : ℕ) → is_alike alike v ≡ true → is_unsure stopped v ≡ false → rests r.alike v ≡ true
  pub stops : (v : ℕ) → v < n → is_unsure stopped v ≡ true → is_alike alike v ≡ true
  pub resting : (v : ℕ) → v < n → rests r.alike v ≡ true → is_alike alike v ≡ true

-- at first of none
pub no_flag : (v : ℕ) → is_alike (replicate 32 false) v ≡ false
no_flag v = by v (cases_lt v 32)
  where
    by : (v : ℕ) → (v < 32) ⊎ (32 ≤ v) → is_alike (replicate 32 false) v ≡ false
    by v (inl low) = get_or-replicate {A = Bool} 32 v false false low
    by v (inr high) = get_or_past (replicate 32 false) v false (let long = length-replicate {A = Bool} 32 false in omega (arith, long, high))

pub no_flags : (stopped : List Bool) (r : Rested) (alike : List Bool) → length alike ≡ 32 → ((v : ℕ) → is_alike alike v ≡ false) → FlagsSoFar stopped r 0 alike
no_flags stopped r alike long none = record {
  long = long;
  why = λ v is off. let clash : false ≡ true = sym (none v) ∙ is in cc;
  stops = λ v lt is. absurd (omega (arith, lt));
  resting = λ v lt is. absurd (omega (arith, lt));
}

pub one_flag : (stopped : List Bool) (r : Rested) (n : ℕ) (alike : List Bool) (to : Bool) → n < 32 → (to ≡ true → is_unsure stopped n ≡ false → rests r.alike n ≡ true) → (is_unsure stopped n ≡ true → to ≡ true) → (rests r.alike n ≡ true → to ≡ true)
    → FlagsSoFar stopped r n alike → FlagsSoFar stopped r (n + 1) (set alike n to)
one_flag stopped r n alike to lt why stops resting was = record {
  long = length-set alike n to ∙ was.long;
  why = λ v is off. elim (cases_eq v n) [
    | inl same ↦ why_here v same is off
    | inr apart ↦ was.why v (sym (other v apart) ∙ is) off
  ];
  stops = λ v below is. elim (cases_eq v n) [
    | inl same ↦ at_here v same (stops (subst (λ (w : ℕ). is_unsure stopped w ≡ true) same is))
    | inr apart ↦ other v apart ∙ was.stops v (omega (arith, below, apart)) is
  ];
  resting = λ v below is. elim (cases_eq v n) [
    | inl same ↦ at_here v same (resting (subst (λ (w : ℕ). rests r.alike w ≡ true) same is))
    | inr apart ↦ other v apart ∙ was.resting v (omega (arith, below, apart)) is
  ];
}
  where
    here : is_alike (set alike n to) n ≡ to
    here = get_or-set_same alike n to false (let long = was.long in omega (arith, lt, long))

    other : (v : ℕ) → (v ≡ n → ⊥) → is_alike (set alike n to) v ≡ is_alike alike v
    other v apart = get_or-set_other alike n v to false apart

    at_here : (v : ℕ) → v ≡ n → to ≡ true → is_alike (set alike n to) v ≡ true
    at_here v same is = subst (λ (w : ℕ). is_alike (set alike n to) w ≡ true) (sym same) (here ∙ is)

    why_here : (v : ℕ) → v ≡ n → is_alike (set alike n to) v ≡ true → is_unsure stopped v ≡ false → rests r.alike v ≡ true
    why_here v same is off =
        subst (λ (w : ℕ). rests r.alike w ≡ true) (sym same) (why (sym here ∙ subst (λ (w : ℕ). is_alike (set alike n to) w ≡ true) same is) (subst (λ (w : ℕ). is_unsure stopped w ≡ false) same off))
