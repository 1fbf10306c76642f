-- Entries that a search by buckets passes over.
use Rattle.std.proofs.Common.{◌≡◌, ℕ, zero, suc, ◌+◌, ◌-◌, ◌<◌, ◌≤◌, min, List, [], ◌∷◌, length, take, get_or, Option, Some, refl, sym, ◌∙◌, ap, arith}
use Rattle.std.specs.Prelude.{slice_get}
use Rattle.std.proofs.lemmas.List.{take_all}
use Rattle.std.proofs.lemmas.Option.{get_or_from_slice_get}
use Rattle.vx_overlay.specs.declared.entry.Entry.{Entry}
use Rattle.vx_overlay.specs.Indexes.{IsIndex, NewestAt, bucket}
use Rattle.vx_overlay.specs.Pending.{newest, newer_or, bytes_for}
use Rattle.vx_overlay.proofs.Newest.{newest-take, bytes-hit, bytes-miss}

pub some_at : (xs : List Entry) (k : ℕ) → k < length xs → (e : Entry) × (slice_get xs k ≡ Some e)
some_at [] k low = absurd (omega (arith, low))
some_at (x ∷ xs) zero low = (x, refl)
some_at (x ∷ xs) (suc k) low = some_at xs k (omega (arith, low))

module _ (xs : List Entry) (v b : ℕ) where
  -- one entry more
  one_more : (k : ℕ) (e : Entry) → k < length xs → slice_get xs k ≡ Some e → newest (take (k + 1) xs) v b ≡ newer_or (bytes_for e v b) (newest (take k xs) v b)
  one_more k e low is = newest-take xs k e v b low ∙ ap (λ (x : Entry). newer_or (bytes_for x v b) (newest (take k xs) v b)) (get_or_from_slice_get xs k e e is)

  pub missed : (k : ℕ) (e : Entry) → k < length xs → slice_get xs k ≡ Some e → (e.volume ≡ v → e.block ≡ b → ⊥) → newest (take (k + 1) xs) v b ≡ newest (take k xs) v b
  missed k e low is other = one_more k e low is ∙ ap (λ (o : Option (List ℕ)). newer_or o (newest (take k xs) v b)) (bytes-miss e v b other)

  pub hit : (k : ℕ) (e : Entry) → k < length xs → slice_get xs k ≡ Some e → e.volume ≡ v → e.block ≡ b → newest (take (k + 1) xs) v b ≡ newest xs v b → NewestAt xs k v b
  hit k e low is p q same = record {
    entry = e;
    there = is;
    is = sym same ∙ one_more k e low is ∙ ap (λ (o : Option (List ℕ)). newer_or o (newest (take k xs) v b)) (bytes-hit e v b p q);
  }

  pub hit_at : (at base : ℕ) → base < at → at ≤ base + length xs → (e : Entry) → slice_get xs (at - 1 - base) ≡ Some e → e.volume ≡ v → e.block ≡ b → newest (take (at - base) xs) v b ≡ newest xs v b
      → NewestAt xs (at - 1 - base) v b
  hit_at at base some low e is p q so =
      let here : at - base ≡ at - 1 - base + 1 = omega (arith, some) in
      hit (at - 1 - base) e (omega (arith, some, low)) is p q (ap (λ (n : ℕ). newest (take n xs) v b) (sym here) ∙ so)

  -- entries of which none is of the block
  skip_by : (lo n : ℕ) → lo + n ≤ length xs → ((p : ℕ) (e : Entry) → slice_get xs p ≡ Some e → lo ≤ p → p < lo + n → e.volume ≡ v → e.block ≡ b → ⊥)
      → newest (take (lo + n) xs) v b ≡ newest (take lo xs) v b
  skip_by lo zero within none = let same : lo + 0 ≡ lo = omega arith in ap (λ (k : ℕ). newest (take k xs) v b) same
  skip_by lo (suc n) within none =
      let e : _ = some_at xs (lo + n) (omega (arith, within)) in
      let next : lo + suc n ≡ lo + n + 1 = omega arith in
      ap (λ (k : ℕ). newest (take k xs) v b) next
      ∙ missed (lo + n) e.0 (omega (arith, within)) e.1 (λ p q. none (lo + n) e.0 e.1 (omega arith) (omega arith) p q)
      ∙ skip_by lo n (omega (arith, within)) (λ p f is low high. none p f is low (omega (arith, high)))

  skip : (lo hi : ℕ) → lo ≤ hi → hi ≤ length xs → ((p : ℕ) (e : Entry) → slice_get xs p ≡ Some e → lo ≤ p → p < hi → e.volume ≡ v → e.block ≡ b → ⊥)
      → newest (take hi xs) v b ≡ newest (take lo xs) v b
  skip lo hi order within none =
      let sum : lo + (hi - lo) ≡ hi = omega (arith, order) in
      ap (λ (k : ℕ). newest (take k xs) v b) (sym sum)
      ∙ skip_by lo (hi - lo) (omega (arith, sum, within)) (λ p e is low high. none p e is low (omega (arith, sum, high)))

  module _ (earlier last : List ℕ) (base : ℕ) where
    same_bucket : (e : Entry) → e.volume ≡ v → e.block ≡ b → bucket (length last) e.volume e.block ≡ bucket (length last) v b
    same_bucket e p q = ap (λ (w : ℕ). bucket (length last) w e.block) p ∙ ap (λ (c : ℕ). bucket (length last) v c) q

    -- where a search begins
    pub begins : IsIndex xs earlier last base → (own at : ℕ) → own ≡ bucket (length last) v b → at ≡ min (get_or last own 0) (base + length xs)
        → newest (take (at - base) xs) v b ≡ newest xs v b
    begins index own at own_is at_is =
        sym (skip (at - base) (length xs) (omega (arith, at_is)) (omega arith)
        (λ p e is low high same_v same_b.
        let behind : base + p < get_or last (bucket (length last) e.volume e.block) 0 = index.behind p e is in
        let here : get_or last (bucket (length last) e.volume e.block) 0 ≡ get_or last own 0 = ap (λ (h : ℕ). get_or last h 0) (same_bucket e same_v same_b ∙ sym own_is) in
        omega (arith, behind, here, at_is, low, high)))
        ∙ ap (λ (l : List Entry). newest l v b) (take_all (length xs) xs (omega arith))

    pub begins_all : newest (take (base + length xs - base) xs) v b ≡ newest xs v b
    begins_all = let all : base + length xs - base ≡ length xs = omega arith in
        ap (λ (k : ℕ). newest (take k xs) v b) all ∙ ap (λ (l : List Entry). newest l v b) (take_all (length xs) xs (omega arith))

    module _ (at : ℕ) (some : base < at) (low : at ≤ base + length xs) (e : Entry) (is : slice_get xs (at - 1 - base) ≡ Some e) (other : e.volume ≡ v → e.block ≡ b → ⊥)
        (so : newest (take (at - base) xs) v b ≡ newest xs v b) where
      abbrev k : ℕ
      k = at - 1 - base

      -- and where it goes on
      pub goes_back_at : newest (take (at - 1 - base) xs) v b ≡ newest xs v b
      goes_back_at =
          let here : at - base ≡ k + 1 = omega (arith, some) in
          sym (missed k e (omega (arith, some, low)) is other) ∙ ap (λ (n : ℕ). newest (take n xs) v b) (sym here) ∙ so

      pub goes_along_at : IsIndex xs earlier last base → (at' own : ℕ) → own ≡ bucket (length last) v b → bucket (length last) e.volume e.block ≡ own → at' ≡ min (get_or earlier (at - 1 - base) 0) (at - 1)
          → newest (take (at' - base) xs) v b ≡ newest xs v b
      goes_along_at index at' own own_is same at_is =
          sym (skip (at' - base) k (omega (arith, at_is)) (omega (arith, low))
          (λ p f there least most same_v same_b.
          let bound : base + p < get_or earlier k 0 = index.behind_earlier p k f e there is most (same_bucket f same_v same_b ∙ sym own_is ∙ sym same) in
          omega (arith, bound, at_is, least, most, some)))
          ∙ goes_back_at
