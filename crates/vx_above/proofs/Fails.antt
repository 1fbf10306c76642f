-- The failed calls of a line at one site: one for each disk whose count rose.
use Rattle.std.proofs.Common.{◌≡◌, ◌≢◌, ◌⊎◌, ◌∙◌, ◌+◌, ◌-◌, ◌^◌, ◌<◌, ◌≤◌, ℕ, zero, suc, Bool, true, false, List, [], ◌∷◌, sym, subst, refl, arith, ⊎_elim}
use Rattle.std.specs.Prelude.{◌||◌, ◌&&◌, ◌==◌, cond, nat_le, nat_lt, Contains, if◌then◌else◌}
use Rattle.std.proofs.lemmas.Bool.{cases_eq}
use Rattle.std.proofs.lemmas.Bool.Decides.{nat_tests}
use Rattle.std.proofs.lemmas.List.Sums.{sum_by-cons}
use Rattle.vx_disk.specs.Counts.{Rose}
use Rattle.vx_grouped.proofs.ImageLemmas.{contains_next}
use Rattle.vx_events.specs.Fails.{Fails}
use Rattle.vx_events.specs.GroupEnds.{AreOf}
use Rattle.vx_yard.specs.Stands.{RoseAll, RoseBy, times}

-- a count rose, or stands at its greatest value
abbrev pub has_risen : ℕ → ℕ → Bool
has_risen old new = nat_lt old new || nat_le 0xffff_ffff_ffff_ffff new

-- of the first n disks of site s those of which a call failed
abbrev pub failed_calls : ℕ → (old new : ℕ → ℕ) → ℕ → Fails
failed_calls s old new zero = []
failed_calls s old new (suc k) = if has_risen (old k) (new k) then (s, k) ∷ failed_calls s old new k else failed_calls s old new k

risen : (old new : ℕ) → Rose old new → has_risen old new ≡ true
risen old new rose = ⊎_elim (λ (less : old < new). grind (arith, nat_tests)) (λ (most : 2 ^ 64 - 1 ≤ new). grind (arith, nat_tests)) rose.rose

pub contains_some : {A : Type 0} (xs : List A) (x : A) → Contains xs x → xs ≢ []
contains_some [] x has none = absurd (omega (arith, has.1))
contains_some (y ∷ ys) x has none = absurd (cc)

at_most_by : (b : Bool) (n : ℕ) → cond b 1 0 + n ≤ n + 1
at_most_by true n = omega arith
at_most_by false n = omega arith

at_most : (xs : Fails) (t e s d : ℕ) → times ((t, e) ∷ xs) s d ≤ times xs s d + 1
at_most xs t e s d =
    let more : times ((t, e) ∷ xs) s d ≡ cond ((t == s) && (e == d)) 1 0 + times xs s d = sum_by-cons (λ f. cond ((f.0 == s) && (f.1 == d)) 1 0) (t, e) xs in
    omega (arith, more, at_most_by ((t == s) && (e == d)) (times xs s d))

module _ (s : ℕ) (old new : ℕ → ℕ) where
  abbrev here : ℕ → Fails
  here n = failed_calls s old new n

  of_either : (k : ℕ) (b : Bool) → AreOf s (here k) → AreOf s (if b then (s, k) ∷ here k else here k)
  of_either k true of = (refl, of)
  of_either k false of = of

  -- each is of the site
  pub calls_of : (n : ℕ) → AreOf s (here n)
  calls_of zero = tt
  calls_of (suc k) = of_either k (has_risen (old k) (new k)) (calls_of k)

  has_here : (k : ℕ) (b : Bool) → b ≡ true → Contains (if b then (s, k) ∷ here k else here k) (s, k)
  has_here k true is = (0, omega arith, refl)
  has_here k false is = absurd (cc)

  has_later : (k d : ℕ) (b : Bool) → Contains (here k) (s, d) → Contains (if b then (s, k) ∷ here k else here k) (s, d)
  has_later k d true has = contains_next (s, d) (s, k) (here k) has
  has_later k d false has = has

  -- a disk whose count rose is named
  pub calls_name : (n d : ℕ) → d < n → Rose (old d) (new d) → Contains (here n) (s, d)
  calls_name zero d below rose = absurd (omega (arith, below))
  calls_name (suc k) d below rose = ⊎_elim
      (λ (same : d ≡ k).
      subst (λ (i : ℕ). Contains (here (suc k)) (s, i)) (sym same)
      (has_here k (has_risen (old k) (new k)) (risen (old k) (new k) (subst (λ (i : ℕ). Rose (old i) (new i)) same rose))))
      (λ apart. has_later k d (has_risen (old k) (new k)) (calls_name k d (omega (arith, below, apart)) rose))
      (cases_eq d k)

  -- ---- how often each is named

  one_more : (k s' d : ℕ) → (s ≡ s' → k ≡ d → ⊥) → times ((s, k) ∷ here k) s' d ≡ times (here k) s' d
  one_more k s' d apart = ⊎_elim
      (λ (same : s ≡ s'). let other : k ≡ d → ⊥ = apart same in grind (arith, nat_tests))
      (λ other. grind (arith, nat_tests))
      (cases_eq s s')

  times_else : (k s' d : ℕ) (b : Bool) → (s ≡ s' → k ≡ d → ⊥) → times (if b then (s, k) ∷ here k else here k) s' d ≡ times (here k) s' d
  times_else k s' d true apart = one_more k s' d apart
  times_else k s' d false apart = refl

  none_beyond : (n s' d : ℕ) → n ≤ d → times (here n) s' d ≡ 0
  none_beyond zero s' d past = refl
  none_beyond (suc k) s' d past = times_else k s' d (has_risen (old k) (new k)) (λ _ is. omega (arith, past, is)) ∙ none_beyond k s' d (omega (arith, past))

  pub none_apart : (n s' d : ℕ) → (s ≡ s' → ⊥) → times (here n) s' d ≡ 0
  none_apart zero s' d apart = refl
  none_apart (suc k) s' d apart = times_else k s' d (has_risen (old k) (new k)) (λ same _. apart same) ∙ none_apart k s' d apart

  one_at : (k : ℕ) → times ((s, k) ∷ here k) s k ≤ 1
  one_at k = omega (arith, at_most (here k) s k s k, none_beyond k s k (omega arith))

  rose_at_most : (k n o m : ℕ) → n ≤ 1 → has_risen o m ≡ true → RoseBy n o m
  rose_at_most k n o m few rose = grind (arith, nat_tests)

  rose_still : (n o m : ℕ) → n ≡ 0 → o ≤ m → RoseBy n o m
  rose_still n o m none later = omega arith

  rose_here : (k : ℕ) (b : Bool) → has_risen (old k) (new k) ≡ b → old k ≤ new k → RoseBy (times (if b then (s, k) ∷ here k else here k) s k) (old k) (new k)
  rose_here k true is later = rose_at_most k (times ((s, k) ∷ here k) s k) (old k) (new k) (one_at k) is
  rose_here k false is later = rose_still (times (here k) s k) (old k) (new k) (none_beyond k s k (omega arith)) later

  -- the counts of the site rose so
  pub calls_rose : (n d : ℕ) → ((i : ℕ) → old i ≤ new i) → RoseBy (times (here n) s d) (old d) (new d)
  calls_rose zero d later = rose_still 0 (old d) (new d) refl (later d)
  calls_rose (suc k) d later = ⊎_elim
      (λ (same : d ≡ k). subst (λ (i : ℕ). RoseBy (times (here (suc k)) s i) (old i) (new i)) (sym same) (rose_here k (has_risen (old k) (new k)) refl (later k)))
      (λ apart.
      subst (λ (t : ℕ). RoseBy t (old d) (new d)) (sym (times_else k s d (has_risen (old k) (new k)) (λ _ is. apart (sym is)))) (calls_rose k d later))
      (cases_eq d k)

-- and those of all sites, where no others changed
pub all_rose : (s n : ℕ) (old new : ℕ → ℕ → ℕ) → ((t d : ℕ) → old t d ≤ new t d) → RoseAll (failed_calls s (old s) (new s) n) old new
all_rose s n old new later = record {
  each = λ t d. ⊎_elim
      (λ (same : s ≡ t). subst (λ (i : ℕ). RoseBy (times (failed_calls s (old s) (new s) n) i d) (old i d) (new i d)) same (calls_rose s (old s) (new s) n d (later s)))
      (λ apart. rose_still s (old s) (new s) (times (failed_calls s (old s) (new s) n) t d) (old t d) (new t d) (none_apart s (old s) (new s) n t d apart) (later t d))
      (cases_eq s t);
}
