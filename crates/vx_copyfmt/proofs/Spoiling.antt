-- What an import finds in an image of which some disks are torn: what it would find were they not, or it is refused for one of them.
use Rattle.std.proofs.Common.{◌≡◌, ◌⊎◌, inl, inr, ⊎_elim, ℕ, zero, suc, ◌<◌, ◌≤◌, Bool, true, false, Option, Some, None, List, refl, ap, sym, subst, ◌∙◌, arith}
use Rattle.std.specs.Prelude.{nat_lt, ◌&&◌, if◌then◌else◌}
use Rattle.std.proofs.lemmas.Bool.{cases_lt, le-ltb, lt-ltb}
use Rattle.vx_disk.specs.Shelf.{Image, Values, Each}
use Rattle.vx_copyfmt.specs.Labels.{seen_in}
use Rattle.vx_copyfmt.specs.Copies.{Disk, Copy, Body, Differs, copy_of}
use Rattle.vx_copyfmt.specs.Imports.{Damaged, is_label, later, on_disk, strange, by_body, by_newest, by_labels, newest_found, import_of}
use Rattle.vx_copyfmt.specs.Commits.{FromOld, FromNew, Torn, Broken, Forged, Amid, FindsOld, FindsNew, NamesDamaged, Spoilt, Older}
use Rattle.vx_copyfmt.proofs.Newest.{strange_same, amid_gives, same_format, same_import}

module _ {C : Type 0} (reads : ℕ → List ℕ → Option C) (failed : C → ℕ → Bool) where
  import_damaged : (units : ℕ) (readable : ℕ → Bool) (i : Image) (x : ℕ × Copy C) (stored computed : List ℕ) → strange readable i units ≡ None → newest_found reads readable i units ≡ Some x → x.1.body ≡ Differs stored computed
      → import_of reads failed units readable i ≡ Damaged x.0 (suc x.1.area) stored computed
  unfolding import_of
  import_damaged units readable i x stored computed labels top body =
      ap (λ (o : Option ℕ). by_labels o (by_newest failed units readable (newest_found reads readable i units))) labels
      ∙ ap (λ (o : Option (ℕ × Copy C)). by_newest failed units readable o) top
      ∙ ap (λ (b : Body C). by_body failed units readable x.0 x.1.area b) body

  module _ (disks : ℕ → Type 0) (units : ℕ) (leaves : Values) (i j : Image) where
    -- one disk of i beside that of j: it has its label and copy, or it is torn and was that of j
    pub data Beside (u : ℕ) : Type 0 where
      Kept : seen_in (i u 0) ≡ seen_in (j u 0) → copy_of reads (i u) ≡ copy_of reads (j u) → Beside u
      WasTorn : seen_in (i u 0) ≡ seen_in (j u 0) → disks u → (torn : Torn reads (leaves u) (i u)) → copy_of reads (j u) ≡ Some torn.was → Beside u

    beside_label : (u : ℕ) → Beside u → seen_in (i u 0) ≡ seen_in (j u 0)
    beside_label u (Kept label copy) = label
    beside_label u (WasTorn label is torn copy) = label

    module _ (readable : ℕ → Bool) where
      -- a copy on a torn disk, whose body has another digest than its header
      record OnTorn (n : ℕ) (x : ℕ × Copy C) : Type 0 where
        below : x.0 < n
        is : disks x.0
        read : readable x.0 ≡ true
        torn : Torn reads (leaves x.0) (i x.0)
        stored : List ℕ
        computed : List ℕ
        body : x.1.body ≡ Differs stored computed

      on_more : (n : ℕ) (x : ℕ × Copy C) → OnTorn n x → OnTorn (suc n) x
      on_more n x on = let lt : x.0 < n = on.below in record { below = omega (arith, lt); is = on.is; read = on.read; torn = on.torn; stored = on.stored; computed = on.computed; body = on.body }

      -- none has a greater serial
      abbrev AtMost : ℕ → Option (ℕ × Copy C) → Type 0
      AtMost s o = (x : ℕ × Copy C) → o ≡ Some x → x.1.serial ≤ s

      -- two that are the greatest have one serial, and are the same or torn; or the second was on a torn disk whose body has the digest of its
      -- header, and the first is no greater one
      data Pair (n : ℕ) (a b : Option (ℕ × Copy C)) : Type 0 where
        Neither : a ≡ None → b ≡ None → Pair n a b
        Both : (x y : ℕ × Copy C) → a ≡ Some x → b ≡ Some y → x.1.serial ≡ y.1.serial → (x ≡ y) ⊎ OnTorn n x → Pair n a b
        Lost : (u : ℕ) → u < n → disks u → readable u ≡ true → (torn : Torn reads (leaves u) (i u)) → Forged (leaves u) (i u) → b ≡ Some (u, torn.was) → AtMost torn.was.serial a → Pair n a b

      pair_more : (n : ℕ) (a b : Option (ℕ × Copy C)) → Pair n a b → Pair (suc n) a b
      pair_more n a b (Neither one two) = Neither one two
      pair_more n a b (Both x y one two same how) = Both x y one two same (⊎_elim (λ it. inl it) (λ on. inr (on_more n x on)) how)
      pair_more n a b (Lost u lt is read torn forged two most) = Lost u (omega (arith, lt)) is read torn forged two most

      pair_same : (n : ℕ) (a b : Option (ℕ × Copy C)) → a ≡ b → Pair n a b
      pair_same n None b is = Neither refl (sym is)
      pair_same n (Some x) b is = Both x x refl (sym is) refl (inl refl)

      -- ---- the later of two

      later_most : (s : ℕ) (a p : Option (ℕ × Copy C)) → AtMost s a → AtMost s p → AtMost s (later a p)
      later_most s None p one two z is = two z is
      later_most s (Some x) None one two z is = one z is
      later_most s (Some x) (Some y) one two z is = by_test (nat_lt x.1.serial y.1.serial) is
        where
          by_test : (t : Bool) → (if t then Some y else Some x) ≡ Some z → z.1.serial ≤ s
          by_test true here = two z here
          by_test false here = one z here

      most_some : (s : ℕ) (a : Option (ℕ × Copy C)) (x : ℕ × Copy C) → a ≡ Some x → x.1.serial ≤ s → AtMost s a
      most_some s a x is le z there =
          let both : Some x ≡ Some z = sym is ∙ there in
          let one : x ≡ z = cc in
          let number : x.1.serial ≡ z.1.serial = ap (λ (y : ℕ × Copy C). y.1.serial) one in
          omega (arith, le, number)

      most_none : (s : ℕ) (a : Option (ℕ × Copy C)) → a ≡ None → AtMost s a
      most_none s a is z there = let clash : None ≡ Some z = sym is ∙ there in absurd cc

      most_up : (s t : ℕ) (a : Option (ℕ × Copy C)) → s ≤ t → AtMost s a → AtMost t a
      most_up s t a le most z there = let here : z.1.serial ≤ s = most z there in omega (arith, le, here)

      first_stays : (x : ℕ × Copy C) (a p : Option (ℕ × Copy C)) → a ≡ Some x → AtMost x.1.serial p → later a p ≡ Some x
      first_stays x a None is most = rw is refl
      first_stays x a (Some y) is most = rw (is, le-ltb x.1.serial y.1.serial (most y refl)) refl

      second_comes : (s : ℕ) (y : ℕ × Copy C) (a p : Option (ℕ × Copy C)) → p ≡ Some y → AtMost s a → s < y.1.serial → later a p ≡ Some y
      second_comes s y None p is most lt = is
      second_comes s y (Some x) p is most lt = let le : x.1.serial ≤ s = most x refl in rw (is, lt-ltb x.1.serial y.1.serial (omega (arith, le, lt))) refl

      later_both : (n : ℕ) (x y z w : ℕ × Copy C) → x.1.serial ≡ y.1.serial → (x ≡ y) ⊎ OnTorn n x → z.1.serial ≡ w.1.serial → (z ≡ w) ⊎ OnTorn n z → Pair n (later (Some x) (Some z)) (later (Some y) (Some w))
      later_both n x y z w same how alike which = by_test (nat_lt x.1.serial z.1.serial) (nat_lt y.1.serial w.1.serial) tests
        where
          tests : nat_lt x.1.serial z.1.serial ≡ nat_lt y.1.serial w.1.serial
          tests = ap (λ (k : ℕ). nat_lt k z.1.serial) same ∙ ap (nat_lt y.1.serial) alike

          by_test : (s t : Bool) → s ≡ t → Pair n (if s then Some z else Some x) (if t then Some w else Some y)
          by_test true true is = Both z w refl refl alike which
          by_test true false is = absurd cc
          by_test false true is = absurd cc
          by_test false false is = Both x y refl refl same how

      later_pair : (n : ℕ) (a b p q : Option (ℕ × Copy C)) → Pair n a b → Pair n p q → Pair n (later a p) (later b q)
      later_pair n a b p q (Neither one two) next = rw (one, two) next
      later_pair n a b p q (Both x y one two same how) (Neither third fourth) = rw (one, two, third, fourth) (Both x y refl refl same how)
      later_pair n a b p q (Both x y one two same how) (Both z w third fourth alike which) = rw (one, two, third, fourth) (later_both n x y z w same how alike which)
      later_pair n a b p q (Both x y one two same how) (Lost u lt is read torn forged fourth most) = elim (cases_lt y.1.serial torn.was.serial) [
        | inl less ↦ Lost u lt is read torn forged (second_comes y.1.serial (u, torn.was) b q fourth (most_some y.1.serial b y two (omega arith)) less)
            (later_most torn.was.serial a p (most_some torn.was.serial a x one (omega (arith, same, less))) most)
        | inr le ↦ Both x y (first_stays x a p one (most_up torn.was.serial x.1.serial p (omega (arith, same, le)) most))
            (first_stays y b q two (most_some y.1.serial q (u, torn.was) fourth le)) same how
      ]
      later_pair n a b p q (Lost u lt is read torn forged two most) (Neither third fourth) =
          Lost u lt is read torn forged (first_stays (u, torn.was) b q two (most_none torn.was.serial q fourth)) (later_most torn.was.serial a p most (most_none torn.was.serial p third))
      later_pair n a b p q (Lost u lt is read torn forged two most) (Both z w third fourth alike which) = elim (cases_lt torn.was.serial w.1.serial) [
        | inl less ↦ Both z w (second_comes torn.was.serial z a p third most (omega (arith, alike, less)))
            (second_comes torn.was.serial w b q fourth (most_some torn.was.serial b (u, torn.was) two (omega arith)) less) alike which
        | inr le ↦ Lost u lt is read torn forged (first_stays (u, torn.was) b q two (most_some torn.was.serial q w fourth le))
            (later_most torn.was.serial a p most (most_some torn.was.serial p z third (omega (arith, alike, le))))
      ]
      later_pair n a b p q (Lost u lt is read torn forged two most) (Lost v lt_v is_v read_v torn_v forged_v fourth most_v) = elim (cases_lt torn.was.serial torn_v.was.serial) [
        | inl less ↦ Lost v lt_v is_v read_v torn_v forged_v (second_comes torn.was.serial (v, torn_v.was) b q fourth (most_some torn.was.serial b (u, torn.was) two (omega arith)) less)
            (later_most torn_v.was.serial a p (most_up torn.was.serial torn_v.was.serial a (omega (arith, less)) most) most_v)
        | inr le ↦ Lost u lt is read torn forged (first_stays (u, torn.was) b q two (most_some torn.was.serial q (v, torn_v.was) fourth le))
            (later_most torn.was.serial a p most (most_up torn_v.was.serial torn.was.serial p le most_v))
      ]

      abbrev Put : Bool → ℕ → Option (Copy C) → Option (ℕ × Copy C)
      Put t n o = if t then on_disk n o else None

      abbrev Refused : Type 0
      Refused = Spoilt reads failed disks units leaves readable i

      put_kept : (n : ℕ) (t : Bool) → copy_of reads (i n) ≡ copy_of reads (j n) → Pair (suc n) (Put t n (copy_of reads (i n))) (Put t n (copy_of reads (j n)))
      put_kept n true same = pair_same (suc n) (on_disk n (copy_of reads (i n))) (on_disk n (copy_of reads (j n))) (ap (on_disk n) same)
      put_kept n false same = Neither refl refl

      put_broken : (n : ℕ) (t : Bool) → readable n ≡ true → disks n → (torn : Torn reads (leaves n) (i n)) → copy_of reads (j n) ≡ Some torn.was → Broken reads torn.was.serial (i n)
          → Pair (suc n) (Put t n (copy_of reads (i n))) (Put t n (copy_of reads (j n)))
      put_broken n false read is torn was broken = Neither refl refl
      put_broken n true read is torn was broken =
          let x : Copy C = record { serial = torn.was.serial; area = broken.area; body = Differs broken.stored broken.computed } in
          Both (n, x) (n, torn.was) (ap (on_disk n) broken.copy) (ap (on_disk n) was) refl
          (inr (record { below = omega arith; is = is; read = read; torn = torn; stored = broken.stored; computed = broken.computed; body = refl }))

      put_forged : (n : ℕ) (t : Bool) → readable n ≡ true → disks n → (torn : Torn reads (leaves n) (i n)) → copy_of reads (j n) ≡ Some torn.was → Forged (leaves n) (i n)
          → Pair (suc n) (Put t n (copy_of reads (i n))) (Put t n (copy_of reads (j n)))
      put_forged n false read is torn was forged = Neither refl refl
      put_forged n true read is torn was forged = Lost n (omega arith) is read torn forged (ap (on_disk n) was) (by_copy (copy_of reads (i n)) refl)
        where
          by_copy : (o : Option (Copy C)) → copy_of reads (i n) ≡ o → AtMost torn.was.serial (on_disk n o)
          by_copy None here x there = absurd cc
          by_copy (Some y) here x there = most_some torn.was.serial (Some (n, y)) (n, y) refl (torn.most y here) x there

      put_torn : (n : ℕ) (l r : Bool) → readable n ≡ r → disks n → (torn : Torn reads (leaves n) (i n)) → copy_of reads (j n) ≡ Some torn.was
          → Pair (suc n) (Put (r && l) n (copy_of reads (i n))) (Put (r && l) n (copy_of reads (j n)))
      put_torn n l false out is torn was = Neither refl refl
      put_torn n l true in_it is torn was = ⊎_elim (λ broken. put_broken n (true && l) in_it is torn was broken) (λ forged. put_forged n (true && l) in_it is torn was forged) torn.now

      put_disk : (n : ℕ) (l : Bool) → Beside n → Pair (suc n) (Put (readable n && l) n (copy_of reads (i n))) (Put (readable n && l) n (copy_of reads (j n)))
      put_disk n l (Kept label copy) = put_kept n (readable n && l) copy
      put_disk n l (WasTorn label is torn copy) = put_torn n l (readable n) refl is torn copy

      module _ (beside : (u : ℕ) → u < units → Beside u) where
        pairs : (n : ℕ) → n ≤ units → Pair n (newest_found reads readable i n) (newest_found reads readable j n)
        pairs zero le = Neither refl refl
        pairs (suc n) le =
            let here : Beside n = beside n (omega (arith, le)) in
            let a : Option (ℕ × Copy C) = newest_found reads readable i n in
            let b : Option (ℕ × Copy C) = newest_found reads readable j n in
            let p : Option (ℕ × Copy C) = Put (readable n && is_label (seen_in (i n 0))) n (copy_of reads (i n)) in
            let q : Option (ℕ × Copy C) = Put (readable n && is_label (seen_in (i n 0))) n (copy_of reads (j n)) in
            subst (λ l. Pair (suc n) (later a p) (later b (Put (readable n && is_label l) n (copy_of reads (j n))))) (beside_label n here)
            (later_pair (suc n) a b p q (pair_more n a b (pairs n (omega (arith, le)))) (put_disk n (is_label (seen_in (i n 0))) here))

        -- an import finds the same in both, or is refused for a torn disk
        pub import_torn : (import_of reads failed units readable i ≡ import_of reads failed units readable j) ⊎ Refused
        import_torn = by_version (strange readable i units) refl
          where
            labels : strange readable i units ≡ strange readable j units
            labels = strange_same readable i j units (λ u lt. beside_label u (beside u lt))

            by_pair : strange readable i units ≡ None → Pair units (newest_found reads readable i units) (newest_found reads readable j units)
                → (import_of reads failed units readable i ≡ import_of reads failed units readable j) ⊎ Refused
            by_pair known (Neither one two) = inl (same_import reads failed units readable i j labels (one ∙ sym two))
            by_pair known (Both x y one two same (inl it)) = inl (same_import reads failed units readable i j labels (one ∙ ap (λ (z : ℕ × Copy C). Some z) it ∙ sym two))
            by_pair known (Both x y one two same (inr on)) = inr (record {
              disk = x.0;
              below = on.below;
              is = on.is;
              read = on.read;
              torn = on.torn;
              how = inl (subst (NamesDamaged x.0) (sym (import_damaged units readable i x on.stored on.computed known one on.body)) refl);
            })
            by_pair known (Lost u lt is read torn forged two most) = inr (record { disk = u; below = lt; is = is; read = read; torn = torn; how = inr (forged, record { each = most }) })

            by_version : (o : Option ℕ) → strange readable i units ≡ o → (import_of reads failed units readable i ≡ import_of reads failed units readable j) ⊎ Refused
            by_version (Some v) is = inl (same_format reads failed units readable i j v is (sym labels ∙ is))
            by_version None is = by_pair is (pairs units (omega arith))

-- ---- the image with the torn disks as they were

module _ {C : Type 0} (reads : ℕ → List ℕ → Option C) (failed : C → ℕ → Bool) (begun : ℕ → C → Type 0) (disks : ℕ → Type 0) (units : ℕ) (leaves : Values) (i : Image) (amid : Amid reads begun disks units leaves i) where
  abbrev disk_was : (u : ℕ) → FromOld reads (leaves u) (i u) ⊎ FromNew reads begun (leaves u) (i u) ⊎ (disks u × Torn reads (leaves u) (i u)) → Disk
  disk_was u (inl old) = i u
  disk_was u (inr (inl new)) = i u
  disk_was u (inr (inr torn)) = torn.1.disk

  abbrev was_at : (u : ℕ) → (u < units) ⊎ (units ≤ u) → Disk
  was_at u (inl lt) = disk_was u (amid u lt)
  was_at u (inr le) = i u

  -- each torn disk as it was, and the others as they are
  abbrev pub repaired : Image
  repaired u = was_at u (cases_lt u units)

  was_plain : (u : ℕ) (how : FromOld reads (leaves u) (i u) ⊎ FromNew reads begun (leaves u) (i u) ⊎ (disks u × Torn reads (leaves u) (i u)))
      → FromOld reads (leaves u) (disk_was u how) ⊎ FromNew reads begun (leaves u) (disk_was u how)
  was_plain u (inl old) = inl old
  was_plain u (inr (inl new)) = inr new
  was_plain u (inr (inr torn)) = inl (record { disk = torn.1.disk; among = torn.1.among; label = refl; copy = refl })

  at_plain : (u : ℕ) (c : (u < units) ⊎ (units ≤ u)) → u < units → FromOld reads (leaves u) (was_at u c) ⊎ FromNew reads begun (leaves u) (was_at u c)
  at_plain u (inl lt) below = was_plain u (amid u lt)
  at_plain u (inr le) below = absurd (omega (arith, le, below))

  pub repaired_plain : (u : ℕ) → u < units → FromOld reads (leaves u) (repaired u) ⊎ FromNew reads begun (leaves u) (repaired u)
  repaired_plain u lt = at_plain u (cases_lt u units) lt

  -- a disk that is as the image has it
  kept_by : (j : Image) (u : ℕ) → j u ≡ i u → Beside reads failed disks units leaves i j u
  kept_by j u same = Kept (ap (λ (d : Disk). seen_in (d 0)) (sym same)) (ap (copy_of reads) (sym same))

  torn_by : (j : Image) (u : ℕ) → disks u → (torn : Torn reads (leaves u) (i u)) → j u ≡ torn.disk → Beside reads failed disks units leaves i j u
  torn_by j u is torn was = WasTorn (torn.label ∙ ap (λ (d : Disk). seen_in (d 0)) (sym was)) is torn (ap (copy_of reads) was ∙ torn.copy)

  beside_by : (j : Image) (u : ℕ) (how : FromOld reads (leaves u) (i u) ⊎ FromNew reads begun (leaves u) (i u) ⊎ (disks u × Torn reads (leaves u) (i u))) → j u ≡ disk_was u how
      → Beside reads failed disks units leaves i j u
  beside_by j u (inl old) is = kept_by j u is
  beside_by j u (inr (inl new)) is = kept_by j u is
  beside_by j u (inr (inr torn)) is = torn_by j u torn.0 torn.1 is

  at_beside : (j : Image) (u : ℕ) (c : (u < units) ⊎ (units ≤ u)) → j u ≡ was_at u c → Beside reads failed disks units leaves i j u
  at_beside j u (inl lt) is = beside_by j u (amid u lt) is
  at_beside j u (inr le) is = kept_by j u is

  pub repaired_beside : (u : ℕ) → u < units → Beside reads failed disks units leaves i repaired u
  repaired_beside u lt = at_beside repaired u (cases_lt u units) refl

  far_at : (u b : ℕ) (c : (u < units) ⊎ (units ≤ u)) → units ≤ u → leaves u b (i u b) → leaves u b (was_at u c b)
  far_at u b (inl lt) le left = absurd (omega (arith, lt, le))
  far_at u b (inr far) le left = left

  pub repaired_far : ((u b : ℕ) → units ≤ u → leaves u b (i u b)) → (u b : ℕ) → units ≤ u → leaves u b (repaired u b)
  repaired_far far u b le = far_at u b (cases_lt u units) le (far u b le)

-- an import finds what it might have found before, or what was made since, or is refused for a torn disk
pub torn_gives : {C : Type 0} (reads : ℕ → List ℕ → Option C) (failed : C → ℕ → Bool) (begun : ℕ → C → Type 0) (s : ℕ) → ((m : ℕ) (c : C) → begun m c → s ≤ m) → (disks : ℕ → Type 0) (units : ℕ) (leaves : Values) (i base : Image)
    → Amid reads begun disks units leaves i → Each leaves base → ((u b : ℕ) → units ≤ u → leaves u b (i u b)) → ((u : ℕ) → u < units → Older reads s (leaves u)) → (readable : ℕ → Bool)
    → FindsOld reads failed units leaves readable i ⊎ FindsNew reads failed begun units readable i ⊎ Spoilt reads failed disks units leaves readable i
torn_gives {C} reads failed begun s late disks units leaves i base amid has far older readable =
    let j : Image = repaired reads failed begun disks units leaves i amid in
    let plain : (u : ℕ) → u < units → FromOld reads (leaves u) (j u) ⊎ FromNew reads begun (leaves u) (j u) = repaired_plain reads failed begun disks units leaves i amid in
    let beyond : (u b : ℕ) → units ≤ u → leaves u b (j u b) = repaired_far reads failed begun disks units leaves i amid far in
    elim (import_torn reads failed disks units leaves i j readable (repaired_beside reads failed begun disks units leaves i amid)) [
      | inl same ↦ elim (amid_gives reads failed begun s late units leaves j base plain has beyond older readable) [
        | inl old ↦ inl (record { image = old.image; left = old.left; same = same ∙ old.same })
        | inr new ↦ inr (inl (record { serial = new.serial; config = new.config; made = new.made; found = same ∙ new.found }))
      ]
      | inr refused ↦ inr (inr refused)
    ]
