-- What a crash does to disks in memory.
use Rattle.std.proofs.Common.{◌≡◌, ◌⊎◌, inl, inr, ⊎_elim, ℕ, ◌<◌, ◌≤◌, ◌+◌, ◌%◌, Option, None, Bool, true, false, cond, List, [], ◌∷◌, ◌++◌, length, map, get_or, take, Vec, refl, sym, ◌∙◌, ap, subst, arith, length-append}
use Rattle.std.specs.declared.alloc.Global.{Global}
use Rattle.std.proofs.lemmas.List.{length-map, get_or-map, get_or_past, length-replicate}
use Rattle.std.proofs.lemmas.Bool.{cases_lt}
use Rattle.vx_disk.specs.Blocks.{block_at, kept, bit_at, trues}
use Rattle.vx_disk.specs.declared.unit.MemUnit.{MemUnit}
use Rattle.vx_disk.specs.Racks.{Stopped}
use Rattle.vx_disk.specs.Memory.{size_of, faults_of, may_keep, Since, meaning_of, Settled, SettledUnit, loose_before}
use Rattle.vx_disk.proofs.Pasts.{States, was-since, since-was}

-- all units settled
module _ (old new : List MemUnit) (pick : ℕ) (settled : Settled old pick new) where
  of_kept : (loose : List Bool) (stable latest : List ℕ) (from b : ℕ) → (kept loose stable latest pick from b ≡ block_at stable b) ⊎ (kept loose stable latest pick from b ≡ block_at latest b)
  unfolding kept
  of_kept loose stable latest from b = elim (get_or loose b false) as (λ l. (cond l (cond (bit_at pick ((from + trues (take b loose)) % 64)) (block_at latest b) (block_at stable b)) (block_at stable b) ≡ block_at stable b)
      ⊎ (cond l (cond (bit_at pick ((from + trues (take b loose)) % 64)) (block_at latest b) (block_at stable b)) (block_at stable b) ≡ block_at latest b)) [
        | true ↦ elim (bit_at pick ((from + trues (take b loose)) % 64)) as (λ c. (cond c (block_at latest b) (block_at stable b) ≡ block_at stable b) ⊎ (cond c (block_at latest b) (block_at stable b) ≡ block_at latest b)) [ true ↦ inr refl | false ↦ inl refl ]
        | false ↦ inl refl
      ]

  pub some_unit : (units : List MemUnit) (u : ℕ) → u < length units → MemUnit
  some_unit [] u below = absurd (omega arith)
  some_unit (m ∷ units) u below = m

  -- beyond the last unit nothing is there
  beyond : {A : Type 0} (f : MemUnit → A) (d : A) (u : ℕ) → length old ≤ u → get_or (map f new) u d ≡ get_or (map f old) u d
  beyond f d u past =
      get_or_past (map f new) u d (omega (arith, length-map new f, settled.number, past)) ∙ sym (get_or_past (map f old) u d (omega (arith, length-map old f, past)))

  module _ (u : ℕ) (below : u < length old) where
    abbrev d : MemUnit
    d = some_unit old u below

    abbrev was : MemUnit
    was = get_or old u d

    abbrev is : MemUnit
    is = get_or new u d

    one : SettledUnit was pick (loose_before old u % 64) is
    one = settled.each u d below

    of_old : {A : Type 0} (f : MemUnit → A) (e : A) → get_or (map f old) u e ≡ f was
    of_old f e = get_or-map f old u d e below

    of_new : {A : Type 0} (f : MemUnit → A) (e : A) → get_or (map f new) u e ≡ f is
    of_new f e = get_or-map f new u d e (omega (arith, settled.number))

    kept_one : (b : ℕ) (v : List ℕ) → v ≡ block_at is.stable.items b → may_keep old u b v
    kept_one b v here =
        let from : v ≡ kept was.loose.items was.stable.items was.latest.items pick (loose_before old u % 64) b = here ∙ one.each b in
        ⊎_elim
        (λ stable. inl (from ∙ stable ∙ ap (λ l. block_at l b) (sym (of_old (λ m. m.stable.items) []))))
        (λ latest. inr (from ∙ latest ∙ ap (λ l. block_at l b) (sym (of_old (λ m. m.latest.items) []))))
        (of_kept was.loose.items was.stable.items was.latest.items (loose_before old u % 64) b)

    leaves_one : (b : ℕ) (v : List ℕ) → may_keep new u b v → may_keep old u b v
    leaves_one b v left = kept_one b v (⊎_elim
        (λ stable. stable ∙ ap (λ l. block_at l b) (of_new (λ m. m.stable.items) []))
        (λ latest. latest ∙ ap (λ l. block_at l b) (of_new (λ m. m.latest.items) [] ∙ one.one_value)) left)

    size_one : size_of new u ≡ size_of old u
    size_one = of_new (λ m. length m.loose.items) 0 ∙ ap length one.loose ∙ length-replicate (length was.loose.items) false ∙ sym (of_old (λ m. length m.loose.items) 0)

    faults_one : faults_of new u ≡ faults_of old u
    faults_one = of_new (λ m. m.faults) 0 ∙ one.faults ∙ sym (of_old (λ m. m.faults) 0)

  sizes : (u : ℕ) → size_of new u ≡ size_of old u
  sizes u = elim (cases_lt u (length old)) [ inl below ↦ size_one u below | inr past ↦ beyond (λ m. length m.loose.items) 0 u past ]

  faults : (u : ℕ) → faults_of new u ≡ faults_of old u
  faults u = elim (cases_lt u (length old)) [ inl below ↦ faults_one u below | inr past ↦ beyond (λ m. m.faults) 0 u past ]

  leaves : (u b : ℕ) (v : List ℕ) → may_keep new u b v → may_keep old u b v
  leaves u b v left = elim (cases_lt u (length old)) [
    | inl below ↦ leaves_one u below b v left
    | inr past ↦ ⊎_elim (λ is. inl (is ∙ ap (λ l. block_at l b) (beyond (λ m. m.stable.items) [] u past))) (λ is. inr (is ∙ ap (λ l. block_at l b) (beyond (λ m. m.latest.items) [] u past))) left
  ]

  pub settled-Stopped : (state : Vec MemUnit Global) (past past' : States) (down : Bool) (fuse : Option (ℕ × ℕ)) → state.items ≡ old → past' ≡ past ++ state ∷ []
      → Stopped (meaning_of old past down fuse) (meaning_of new past' true None)
  settled-Stopped state past past' down fuse is pushed = record {
    units = settled.number;
    size = sizes;
    tells = refl;
    reads = λ u b v reads. leaves u b v (inr reads);
    leaves = leaves;
    now = λ i now u b. leaves u b (i u b) (now u b);
    later = omega (arith, ap length pushed, length-append past (state ∷ []));
    since = λ t i le left. ⊎_elim
        (λ now. inl (λ u b. leaves u b (i u b) (now u b)))
        (λ was. subst (λ (l : List MemUnit). Since l past t i) is (was-since state past past' pushed t i le was)) left;
    keeps = λ t i le left. inr (since-was state past past' pushed t i le (subst (λ (l : List MemUnit). Since l past t i) (sym is) left));
    counts = record { faults = faults; disk_faults = faults };
    down = refl;
    unarmed = refl;
  }
