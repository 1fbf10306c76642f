-- The failed calls of a line at one site, of which one on a disk ended it: the others, and then that one.
use Rattle.std.proofs.Common.{◌≡◌, ◌⊎◌, ◌+◌, ◌^◌, ◌-◌, ◌<◌, ◌≤◌, ℕ, [], ◌∷◌, ◌++◌, sym, subst, arith, ⊎_elim}
use Rattle.std.specs.Prelude.{◌==◌, ◌&&◌, cond, Contains, if◌then◌else◌}
use Rattle.std.proofs.lemmas.Bool.{cases_eq}
use Rattle.std.proofs.lemmas.Bool.Decides.{nat_tests}
use Rattle.std.proofs.lemmas.List.Sums.{sum_by-append}
use Rattle.vx_disk.specs.Counts.{Rose}
use Rattle.std.proofs.lemmas.List.Elements.{Contains-append_left, Contains-push}
use Rattle.vx_events.specs.Fails.{Fails}
use Rattle.vx_yard.specs.Stands.{RoseAll, RoseBy, times}
use Rattle.vx_above.proofs.Fails.{calls_name, calls_rose, failed_calls, none_apart}

-- counts without those of one disk
abbrev pub masked : ℕ → (ℕ → ℕ) → ℕ → ℕ
masked disk counts k = if k == disk then 0 else counts k

-- the calls that failed on the first n disks of site s, of which one on this disk came last
abbrev pub calls_but : (s disk : ℕ) → (old new : ℕ → ℕ) → ℕ → Fails
calls_but s disk old new n = failed_calls s (masked disk old) (masked disk new) n

masked_at : (disk : ℕ) (counts : ℕ → ℕ) → masked disk counts disk ≡ 0
masked_at disk counts = grind (arith, nat_tests)

masked_apart : (disk k : ℕ) (counts : ℕ → ℕ) → (k ≡ disk → ⊥) → masked disk counts k ≡ counts k
masked_apart disk k counts apart = grind (arith, nat_tests)

masked_later : (disk : ℕ) (old new : ℕ → ℕ) → ((d : ℕ) → old d ≤ new d) → (k : ℕ) → masked disk old k ≤ masked disk new k
masked_later disk old new later k = ⊎_elim
    (λ (same : k ≡ disk). subst (λ (j : ℕ). masked disk old j ≤ masked disk new j) (sym same) (omega (arith, masked_at disk old, masked_at disk new)))
    (λ apart. omega (arith, later k, masked_apart disk k old apart, masked_apart disk k new apart))
    (cases_eq k disk)

times_both : (xs ys : Fails) (s d : ℕ) → times (xs ++ ys) s d ≡ times xs s d + times ys s d
times_both xs ys s d = sum_by-append (λ f. cond ((f.0 == s) && (f.1 == d)) 1 0) xs ys

one_here : (s d : ℕ) → times ((s, d) ∷ []) s d ≡ 1
one_here s d = grind (arith, nat_tests)

none_there : (s disk t d : ℕ) → (s ≡ t → disk ≡ d → ⊥) → times ((s, disk) ∷ []) t d ≡ 0
none_there s disk t d apart = ⊎_elim
    (λ (same : s ≡ t). let other : disk ≡ d → ⊥ = apart same in grind (arith, nat_tests))
    (λ other. grind (arith, nat_tests))
    (cases_eq s t)

none_risen : (n : ℕ) → RoseBy n 0 0 → n ≡ 0
none_risen n rose = omega (arith, rose)

once : (n o m : ℕ) → n ≡ 1 → Rose o m → RoseBy n o m
once n o m is rose = ⊎_elim (λ (less : o < m). omega (arith, is, less)) (λ (most : 2 ^ 64 - 1 ≤ m). omega (arith, is, most)) rose.rose

by_same : (n k o m : ℕ) → n ≡ k → RoseBy k o m → RoseBy n o m
by_same n k o m is rose = subst (λ (j : ℕ). RoseBy j o m) (sym is) rose

module _ (s disk n : ℕ) (old new : ℕ → ℕ → ℕ) (later : (t d : ℕ) → old t d ≤ new t d) where
  abbrev borne : Fails
  borne = calls_but s disk (old s) (new s) n

  masked_rose : (d : ℕ) → RoseBy (times borne s d) (masked disk (old s) d) (masked disk (new s) d)
  masked_rose d = calls_rose s (masked disk (old s)) (masked disk (new s)) n d (masked_later disk (old s) (new s) (later s))

  not_borne : times borne s disk ≡ 0
  not_borne = none_risen (times borne s disk)
      (subst (λ (a : ℕ). RoseBy (times borne s disk) a 0) (masked_at disk (old s))
      (subst (λ (b : ℕ). RoseBy (times borne s disk) (masked disk (old s) disk) b) (masked_at disk (new s)) (masked_rose disk)))

  other_rose : (d : ℕ) → (d ≡ disk → ⊥) → RoseBy (times borne s d) (old s d) (new s d)
  other_rose d apart =
      subst (λ (a : ℕ). RoseBy (times borne s d) a (new s d)) (masked_apart disk d (old s) apart)
      (subst (λ (b : ℕ). RoseBy (times borne s d) (masked disk (old s) d) b) (masked_apart disk d (new s) apart) (masked_rose d))

  here_rose : Rose (old s disk) (new s disk) → (d : ℕ) → RoseBy (times (borne ++ (s, disk) ∷ []) s d) (old s d) (new s d)
  here_rose rose d = ⊎_elim
      (λ (same : d ≡ disk).
      subst (λ (k : ℕ). RoseBy (times (borne ++ (s, disk) ∷ []) s k) (old s k) (new s k)) (sym same)
      (once (times (borne ++ (s, disk) ∷ []) s disk) (old s disk) (new s disk) (omega (arith, times_both borne ((s, disk) ∷ []) s disk, not_borne, one_here s disk)) rose))
      (λ apart.
      by_same (times (borne ++ (s, disk) ∷ []) s d) (times borne s d) (old s d) (new s d)
      (omega (arith, times_both borne ((s, disk) ∷ []) s d, none_there s disk s d (λ _ is. apart (sym is)))) (other_rose d apart))
      (cases_eq d disk)

  there_rose : (t d : ℕ) → (s ≡ t → ⊥) → RoseBy (times (borne ++ (s, disk) ∷ []) t d) (old t d) (new t d)
  there_rose t d apart =
      let none : times (borne ++ (s, disk) ∷ []) t d ≡ 0 =
      omega (arith, times_both borne ((s, disk) ∷ []) t d, none_apart s (masked disk (old s)) (masked disk (new s)) n t d apart, none_there s disk t d (λ same _. apart same)) in
      omega (arith, none, later t d)

  -- the counts rose so, where that of the disk did
  pub all_but : Rose (old s disk) (new s disk) → RoseAll (borne ++ (s, disk) ∷ []) old new
  all_but rose = record {
    each = λ t d. ⊎_elim
        (λ (same : s ≡ t). subst (λ (i : ℕ). RoseBy (times (borne ++ (s, disk) ∷ []) i d) (old i d) (new i d)) same (here_rose rose d))
        (λ apart. there_rose t d apart)
        (cases_eq s t);
  }

  -- and each of the first disks whose count rose is named
  pub names_but : (d : ℕ) → d < n → Rose (old s d) (new s d) → Contains (borne ++ (s, disk) ∷ []) (s, d)
  names_but d below rose = ⊎_elim
      (λ (same : d ≡ disk). subst (λ (k : ℕ). Contains (borne ++ (s, disk) ∷ []) (s, k)) (sym same) (Contains-push borne (s, disk)))
      (λ apart.
      Contains-append_left borne ((s, disk) ∷ []) (s, d)
      (calls_name s (masked disk (old s)) (masked disk (new s)) n d below
      (subst (λ (a : ℕ). Rose a (masked disk (new s) d)) (sym (masked_apart disk d (old s) apart)) (subst (λ (b : ℕ). Rose (old s d) b) (sym (masked_apart disk d (new s) apart)) rose))))
      (cases_eq d disk)
