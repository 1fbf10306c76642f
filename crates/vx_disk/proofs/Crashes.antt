-- Which values a crash of disks in memory keeps.
use Rattle.std.proofs.Common.{◌≡◌, inl, inr, ℕ, zero, suc, ◌<◌, ◌≤◌, ◌+◌, ◌%◌, Option, None, Bool, false, cond, List, [], ◌∷◌, length, map, get_or, take, sym, refl, ◌∙◌, ap, arith, add-one}
use Rattle.std.proofs.lemmas.List.{length-map, get_or-map, get_or_past, take_all}
use Rattle.std.proofs.lemmas.List.Sums.{fold_more}
use Rattle.std.proofs.lemmas.Bool.{cases_lt}
use Rattle.vx_disk.specs.declared.unit.MemUnit.{MemUnit}
use Rattle.vx_disk.specs.Blocks.{block_at, kept, bit_at, trues}
use Rattle.vx_disk.specs.Disks.{Crashed, count_below, sum_below, loose_place, picked}
use Rattle.vx_disk.specs.Memory.{stable_of, latest_of, loose_of, size_of, failing_of, disks_of, Settled, SettledUnit, loose_before, NoneLoose}
use Rattle.vx_disk.proofs.Flags.{no_loose}

-- counting the loose blocks of one unit
count_list : (l : List Bool) (n : ℕ) → count_below (λ b. get_or l b false) n ≡ trues (take n l)
count_list l zero = refl
count_list l (suc n) = elim (cases_lt n (length l)) [
  | inl below ↦ ap (λ (k : ℕ). k + cond (get_or l n false) 1 0) (count_list l n) ∙ sym (fold_more (λ a x. a + cond x 1 0) 0 l n false below) ∙ ap (λ (k : ℕ). trues (take k l)) (add-one n)
  | inr past ↦
      let none : get_or l n false ≡ false = get_or_past l n false past in
      let same : take n l ≡ take (suc n) l = take_all n l past ∙ sym (take_all (suc n) l (omega arith)) in
      (λ i. count_list l n i + cond (none i) 1 0) ∙ omega arith ∙ ap trues same
]

pub some_unit : (units : List MemUnit) (u : ℕ) → u < length units → MemUnit
some_unit [] u below = absurd (omega arith)
some_unit (m ∷ units) u below = m

-- all units settled
module _ (old new : List MemUnit) (pick : ℕ) (fuse : Option (ℕ × ℕ)) (settled : Settled old pick new) where
  abbrev loose_at : ℕ → ℕ → Bool
  loose_at w b = get_or (loose_of old w) b false

  unit_count : (w : ℕ) (d : MemUnit) → w < length old → count_below (loose_at w) (size_of old w) ≡ trues (get_or old w d).loose.items
  unit_count w d below =
      let size : size_of old w ≡ length (get_or old w d).loose.items = get_or-map (λ m. length m.loose.items) old w d 0 below in
      let row : loose_of old w ≡ (get_or old w d).loose.items = get_or-map (λ m. m.loose.items) old w d [] below in
      count_list (loose_of old w) (size_of old w) ∙ (λ i. trues (take (size i) (row i))) ∙ ap trues (take_all (length (get_or old w d).loose.items) (get_or old w d).loose.items (omega arith))

  before_count : (u : ℕ) → u ≤ length old → sum_below (λ w. count_below (loose_at w) (size_of old w)) u ≡ loose_before old u
  before_count zero le = refl
  before_count (suc u) le =
      let below : u < length old = omega arith in
      let d = some_unit old u below in
      (λ i. before_count u (omega arith) i + unit_count u d below i) ∙ sym (fold_more (λ a m. a + trues m.loose.items) 0 old u d below) ∙ ap (λ (k : ℕ). loose_before old k) (add-one u)

  module _ (u : ℕ) (below : u < length old) where
    abbrev d : MemUnit
    d = some_unit old u below

    abbrev was : MemUnit
    was = get_or old u d

    abbrev is : MemUnit
    is = get_or new u d

    one : SettledUnit was pick (loose_before old u % 64) is
    one = settled.each u d below

    of_old : {A : Type 0} (f : MemUnit → A) (e : A) → get_or (map f old) u e ≡ f was
    of_old f e = get_or-map f old u d e below

    of_new : {A : Type 0} (f : MemUnit → A) (e : A) → get_or (map f new) u e ≡ f is
    of_new f e = get_or-map f new u d e (omega (arith, settled.number))

    number : (b : ℕ) → (loose_before old u % 64 + trues (take b was.loose.items)) % 64 ≡ loose_place (size_of old) loose_at u b % 64
    number b =
        let row : loose_of old u ≡ was.loose.items = of_old (λ m. m.loose.items) [] in
        let here : count_below (loose_at u) b ≡ trues (take b was.loose.items) = count_list (loose_of old u) b ∙ ap (λ l. trues (take b l)) row in
        omega (arith, here, before_count u (omega arith))

    kept_picked : (b : ℕ) → kept was.loose.items was.stable.items was.latest.items pick (loose_before old u % 64) b ≡ picked (size_of old) (disks_of old fuse) pick u b
    unfolding kept picked
    kept_picked b =
        let stable = of_old (λ m. m.stable.items) [] in
        let latest = of_old (λ m. m.latest.items) [] in
        let loose = of_old (λ m. m.loose.items) [] in
        λ i. cond (get_or (sym loose i) b false) (cond (bit_at pick (number b i)) (block_at (sym latest i) b) (block_at (sym stable i) b)) (block_at (sym stable i) b)

    stable_one : (b : ℕ) → block_at (stable_of new u) b ≡ picked (size_of old) (disks_of old fuse) pick u b
    stable_one b = ap (λ l. block_at l b) (of_new (λ m. m.stable.items) []) ∙ one.each b ∙ kept_picked b

    latest_one : (b : ℕ) → block_at (latest_of new u) b ≡ picked (size_of old) (disks_of old fuse) pick u b
    latest_one b = ap (λ l. block_at l b) (of_new (λ m. m.latest.items) [] ∙ one.one_value) ∙ one.each b ∙ kept_picked b

    loose_one : (b : ℕ) → get_or (loose_of new u) b false ≡ false
    loose_one b = ap (λ l. get_or l b false) (of_new (λ m. m.loose.items) [] ∙ one.loose) ∙ no_loose (length was.loose.items) b

    failing_one : failing_of new u ≡ failing_of old u
    failing_one = of_new (λ m. m.failing) false ∙ one.failing ∙ sym (of_old (λ m. m.failing) false)

  none_at : {A : Type 0} (f : MemUnit → A) (e : A) (units : List MemUnit) (u : ℕ) → length units ≤ u → get_or (map f units) u e ≡ e
  none_at f e units u past = get_or_past (map f units) u e (omega (arith, length-map units f, past))

  not_picked : (u b : ℕ) → length old ≤ u → picked (size_of old) (disks_of old fuse) pick u b ≡ block_at [] b
  unfolding picked
  not_picked u b past =
      let loose = none_at (λ m. m.loose.items) [] old u past in
      let stable = none_at (λ m. m.stable.items) [] old u past in
      λ i. cond (get_or (loose i) b false) (cond (bit_at pick (loose_place (size_of old) loose_at u b % 64)) (block_at (latest_of old u) b) (block_at (stable i) b)) (block_at (stable i) b)

  pub settled-Crashed : Crashed (size_of old) pick (disks_of old fuse) (disks_of new None)
  settled-Crashed = record {
    stable = λ u b. elim (cases_lt u (length old)) [
      | inl below ↦ stable_one u below b
      | inr past ↦ ap (λ l. block_at l b) (none_at (λ m. m.stable.items) [] new u (omega (arith, settled.number))) ∙ sym (not_picked u b past)
    ];
    latest = λ u b. elim (cases_lt u (length old)) [
      | inl below ↦ latest_one u below b
      | inr past ↦ ap (λ l. block_at l b) (none_at (λ m. m.latest.items) [] new u (omega (arith, settled.number))) ∙ sym (not_picked u b past)
    ];
    loose = λ u b. elim (cases_lt u (length old)) [
      | inl below ↦ loose_one u below b
      | inr past ↦ ap (λ l. get_or l b false) (none_at (λ m. m.loose.items) [] new u (omega (arith, settled.number)))
    ];
    fuse = refl;
  }

  pub settled-failing : (u : ℕ) → failing_of new u ≡ failing_of old u
  settled-failing u = elim (cases_lt u (length old)) [
    | inl below ↦ failing_one u below
    | inr past ↦ none_at (λ m. m.failing) false new u (omega (arith, settled.number)) ∙ sym (none_at (λ m. m.failing) false old u past)
  ]

  pub settled-NoneLoose : NoneLoose new
  settled-NoneLoose = settled-Crashed.loose
