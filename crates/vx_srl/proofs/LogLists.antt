-- Records of a log in memory, and the first of them given up.
use Rattle.std.proofs.Common.{◌≡◌, ℕ, zero, suc, ◌+◌, ◌-◌, ◌%◌, ◌<◌, ◌≤◌, ◌&&◌, true, List, [], ◌∷◌, ◌++◌, length, take, drop, get_or, refl, sym, ◌∙◌, ap, subst, inl, inr, arith, length-drop, nat_lt}
use Rattle.std.proofs.Math.Nat.{add-mod_right, mod-add-mod, mod-eq_of_lt, mod-lt}
use Rattle.std.proofs.lemmas.Bool.{and_from, and_parts, cases_lt, lt-ltb, ltb-true}
use Rattle.std.proofs.lemmas.List.{drop-drop, drop-take, drop_more, take-append-drop, take-take, take_all}
use Rattle.std.proofs.lemmas.List.Elements.{All-drop}
use Rattle.vx_srlfmt.specs.Headers.{CanSpellHeader}
use Rattle.vx_srlfmt.specs.Records.{CanSpellHead}
use Rattle.vx_srlfmt.specs.declared.header.Header.{Header}
use Rattle.vx_ringio.specs.Classes.{is_of_ring}
use Rattle.vx_srl.specs.Views.{IsOrdered, PlacedFrom, last_incarnation, place_after, width_of, widths}
use Rattle.vx_srl.specs.declared.kept.Kept.{Kept}
use Rattle.vx_srl.proofs.Shared_S1.{place_append, widths_append}
use Rattle.vx_srl.proofs.SealLaws.{placed_behind}

-- ---- a header of the ring

pub place_low : (ring : ℕ) (h : Header) → is_of_ring ring h ≡ true → h.place < ring
place_low ring h is = ltb-true h.place ring (and_parts (nat_lt h.place ring) (nat_lt 0 h.low && nat_lt h.run (h.stamp + 1)) is).0

low_and_run : (ring : ℕ) (h : Header) → is_of_ring ring h ≡ true → (nat_lt 0 h.low ≡ true) × (nat_lt h.run (h.stamp + 1) ≡ true)
low_and_run ring h is = and_parts (nat_lt 0 h.low) (nat_lt h.run (h.stamp + 1)) (and_parts (nat_lt h.place ring) (nat_lt 0 h.low && nat_lt h.run (h.stamp + 1)) is).1

pub low_some : (ring : ℕ) (h : Header) → is_of_ring ring h ≡ true → 0 < h.low
low_some ring h is = ltb-true 0 h.low (low_and_run ring h is).0

-- each run began with a header
pub run_few : (ring : ℕ) (h : Header) → is_of_ring ring h ≡ true → h.run ≤ h.stamp
run_few ring h is = let below : h.run < h.stamp + 1 = ltb-true h.run (h.stamp + 1) (low_and_run ring h is).1 in omega (arith, below)

pub numbers_of_ring : (place ring low run stamp : ℕ) → place < ring → 0 < low → run ≤ stamp → (nat_lt place ring && (nat_lt 0 low && nat_lt run (stamp + 1))) ≡ true
numbers_of_ring place ring low run stamp there some runs =
    and_from (nat_lt place ring) (nat_lt 0 low && nat_lt run (stamp + 1)) (lt-ltb place ring there)
    (and_from (nat_lt 0 low) (nat_lt run (stamp + 1)) (lt-ltb 0 low some) (lt-ltb run (stamp + 1) (omega (arith, runs))))

-- ---- places

pub place_below : (ring p : ℕ) (ks : List Kept) → p < ring → place_after ring p ks < ring
place_below ring p [] low = low
place_below ring p (k ∷ ks) low = place_below ring ((p + width_of k) % ring) ks (mod-lt (p + width_of k) (omega (arith, low)))

pub place_sum : (ring p : ℕ) (ks : List Kept) → p < ring → place_after ring p ks ≡ (p + widths ks) % ring
place_sum ring p [] low = let e : p + 0 ≡ p = omega arith in sym (ap (λ (x : ℕ). x % ring) e ∙ mod-eq_of_lt low)
place_sum ring p (k ∷ ks) low =
    let e : p + width_of k + widths ks ≡ p + (width_of k + widths ks) = omega arith in
    place_sum ring ((p + width_of k) % ring) ks (mod-lt (p + width_of k) (omega (arith, low)))
    ∙ mod-add-mod (p + width_of k) ring (widths ks) ∙ ap (λ (x : ℕ). x % ring) e

-- the record behind the first n has the place behind them
pub place_at : (ring p n : ℕ) (ks : List Kept) (d : Kept) → PlacedFrom ring p ks → n < length ks → (get_or ks n d).place ≡ place_after ring p (take n ks)
place_at ring p n [] d placed low = absurd (omega (arith, low))
place_at ring p zero (k ∷ ks) d placed low = placed.0
place_at ring p (suc n) (k ∷ ks) d placed low = place_at ring ((p + width_of k) % ring) n ks d placed.1 (omega (arith, low))

pub last_at : (floor n : ℕ) (ks : List Kept) (d : Kept) → n < length ks → last_incarnation floor (take (suc n) ks) ≡ (get_or ks n d).head.incarnation
last_at floor n [] d low = absurd (omega (arith, low))
last_at floor zero (k ∷ ks) d low = refl
last_at floor (suc n) (k ∷ ks) d low = last_at k.head.incarnation n ks d (omega (arith, low))

-- ---- parts

pub part_length : (n : ℕ) (ks : List Kept) → length (take n ks ++ drop n ks) ≡ length ks
part_length n ks = ap (λ (xs : List Kept). length xs) (take-append-drop n ks)

pub split_widths : (n : ℕ) (ks : List Kept) → widths ks ≡ widths (take n ks) + widths (drop n ks)
split_widths n ks = ap widths (sym (take-append-drop n ks)) ∙ widths_append (take n ks) (drop n ks)

pub split_place : (ring p n : ℕ) (ks : List Kept) → place_after ring p ks ≡ place_after ring (place_after ring p (take n ks)) (drop n ks)
split_place ring p n ks = ap (λ (xs : List Kept). place_after ring p xs) (sym (take-append-drop n ks)) ∙ place_append ring p (take n ks) (drop n ks)

split_placed : (ring p n : ℕ) (ks : List Kept) → PlacedFrom ring p ks → PlacedFrom ring (place_after ring p (take n ks)) (drop n ks)
split_placed ring p n ks placed = placed_behind ring p (take n ks) (drop n ks) (subst (λ (xs : List Kept). PlacedFrom ring p xs) (sym (take-append-drop n ks)) placed)

-- a first record takes its width
pub first_width : (n : ℕ) (ks : List Kept) (d : Kept) → n < length ks → widths (drop n ks) ≡ width_of (get_or ks n d) + widths (drop (n + 1) ks)
first_width n ks d low = ap widths (drop_more ks n d low)

some_behind : (n : ℕ) (ks : List Kept) (d : Kept) → n < length ks → 0 < widths (drop n ks)
some_behind n ks d low = omega (arith, first_width n ks d low)

-- the first ones are gone, and the header says so
pub ordered_behind : (ring : ℕ) (h g : Header) (n : ℕ) (ks : List Kept) → n ≤ length ks → CanSpellHeader g → is_of_ring ring g ≡ true
    → g.low ≤ h.low + n → g.place ≡ place_after ring h.place (take n ks) → IsOrdered ring h ks → IsOrdered ring g (drop n ks)
ordered_behind ring h g n ks few spell of_ring low place ordered = record {
  some = ordered.some;
  few = ordered.few;
  spell = spell;
  of_ring = of_ring;
  heads = All-drop (λ k. CanSpellHead k.head) n ks ordered.heads;
  placed = subst (λ (p : ℕ). PlacedFrom ring p (drop n ks)) (sym place) (split_placed ring h.place n ks ordered.placed);
  fits = omega (arith, ordered.fits, split_widths n ks);
  numbers = omega (arith, ordered.numbers, low, few, length-drop n ks);
}

pub end_behind : (ring : ℕ) (h g : Header) (n : ℕ) (ks : List Kept) → g.place ≡ place_after ring h.place (take n ks) → place_after ring h.place ks ≡ place_after ring g.place (drop n ks)
end_behind ring h g n ks place = split_place ring h.place n ks ∙ ap (λ (p : ℕ). place_after ring p (drop n ks)) (sym place)

-- ---- the blocks between two places

mod_back : (ring p w : ℕ) → p < ring → w < ring → ((p + w) % ring + ring - p) % ring ≡ w
mod_back ring p w p_low w_low = elim (cases_lt (p + w) ring) [
  | inl near ↦
      let a : (p + w) % ring ≡ p + w = mod-eq_of_lt near in
      let b : (p + w) % ring + ring - p ≡ w + ring = omega (arith, a, p_low) in
      ap (λ (x : ℕ). x % ring) b ∙ add-mod_right w ring ∙ mod-eq_of_lt w_low
  | inr far ↦
      let rest : p + w - ring < ring = omega (arith, p_low, w_low, far) in
      let sum : p + w ≡ (p + w - ring) + ring = omega (arith, far) in
      let a : (p + w) % ring ≡ p + w - ring = ap (λ (x : ℕ). x % ring) sum ∙ add-mod_right (p + w - ring) ring ∙ mod-eq_of_lt rest in
      let b : (p + w) % ring + ring - p ≡ w = omega (arith, a, far, p_low) in
      ap (λ (x : ℕ). x % ring) b ∙ mod-eq_of_lt w_low
]

-- from the first place to that of record n are the blocks of the first n
pub blocks_before : (ring p n : ℕ) (ks : List Kept) (d : Kept) → p < ring → PlacedFrom ring p ks → widths ks ≤ ring → n < length ks
    → ((get_or ks n d).place + ring - p) % ring ≡ widths (take n ks)
blocks_before ring p n ks d low placed fits at =
    let sum : (get_or ks n d).place ≡ (p + widths (take n ks)) % ring = place_at ring p n ks d placed at ∙ place_sum ring p (take n ks) low in
    let less : widths (take n ks) < ring = omega (arith, split_widths n ks, some_behind n ks d at, fits) in
    ap (λ (x : ℕ). (x + ring - p) % ring) sum ∙ mod_back ring p (widths (take n ks)) low less

pub record_before : (ring p n : ℕ) (ks : List Kept) (x : Kept) → x ≡ get_or ks n x → p < ring → PlacedFrom ring p ks → widths ks ≤ ring → n < length ks
    → (x.place + ring - p) % ring ≡ widths (take n ks)
record_before ring p n ks x is low placed fits at = ap (λ (y : Kept). (y.place + ring - p) % ring) is ∙ blocks_before ring p n ks x low placed fits at

-- what the records behind the first n take
pub blocks_behind : (ring p n : ℕ) (s : ℕ) (ks : List Kept) (x : Kept) (used : ℕ) → used ≡ widths ks → x ≡ get_or ks n x → p < ring → PlacedFrom ring p ks → widths ks ≤ ring → n < length ks
    → used - (x.place + ring - p) % ring ≡ widths (drop n (take s ks ++ drop s ks))
blocks_behind ring p n s ks x used used_is is low placed fits at =
    let whole : widths (drop n (take s ks ++ drop s ks)) ≡ widths (drop n ks) = ap (λ (xs : List Kept). widths (drop n xs)) (take-append-drop s ks) in
    omega (arith, whole, used_is, split_widths n ks, record_before ring p n ks x is low placed fits at)

-- ---- a reclaim

-- the first ones of those that are held
pub first_held : (n s : ℕ) (ks : List Kept) → n ≤ s → take n (take s ks) ≡ take n ks
first_held n s ks few = take-take n s ks few

-- held and staged, with n gone
pub held_behind : (n s : ℕ) (ks : List Kept) → n ≤ s → take (s - n) (drop n ks) ≡ drop n (take s ks)
held_behind n s ks few =
    let e : n + (s - n) ≡ s = omega (arith, few) in
    sym (drop-take n (s - n) ks) ∙ ap (λ (m : ℕ). drop n (take m ks)) e

pub staged_behind : (n s : ℕ) (ks : List Kept) → n ≤ s → drop (s - n) (drop n ks) ≡ drop s ks
staged_behind n s ks few =
    let e : n + (s - n) ≡ s = omega (arith, few) in
    drop-drop (s - n) n ks ∙ ap (λ (m : ℕ). drop m ks) e

-- the floor behind the first n, of which there is one at least
pub floor_behind : (floor n s : ℕ) (ks : List Kept) (x : Kept) → 0 < n → n ≤ s → n ≤ length ks → x ≡ get_or ks (n - 1) x → x.head.incarnation ≡ last_incarnation floor (take n (take s ks))
floor_behind floor n s ks x some held few is =
    let e : n ≡ suc (n - 1) = omega (arith, some) in
    ap (λ (y : Kept). y.head.incarnation) is
    ∙ sym (last_at floor (n - 1) ks x (omega (arith, some, few)))
    ∙ ap (λ (m : ℕ). last_incarnation floor (take m ks)) (sym e)
    ∙ ap (λ (xs : List Kept). last_incarnation floor xs) (sym (first_held n s ks held))

pub place_behind : (ring p n s : ℕ) (ks : List Kept) (x : Kept) → n ≤ s → n < length ks → PlacedFrom ring p ks → x ≡ get_or ks n x → x.place ≡ place_after ring p (take n (take s ks))
place_behind ring p n s ks x held low placed is =
    ap (λ (y : Kept). y.place) is ∙ place_at ring p n ks x placed low ∙ ap (λ (xs : List Kept). place_after ring p xs) (sym (first_held n s ks held))

pub place_of_all : (ring p n s : ℕ) (ks : List Kept) → n ≤ s → n ≡ length ks → place_after ring p ks ≡ place_after ring p (take n (take s ks))
place_of_all ring p n s ks held all =
    ap (λ (xs : List Kept). place_after ring p xs) (sym (first_held n s ks held ∙ take_all n ks (omega (arith, all))))
