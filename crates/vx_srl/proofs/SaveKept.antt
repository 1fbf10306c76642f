-- What memory keeps of a log behind a reclaim.
use Rattle.std.proofs.Common.{◌≡◌, ℕ, ◌+◌, ◌-◌, ◌≤◌, true, List, length, take, drop, sym, ◌∙◌, ap, subst, arith, length-drop, length-take}
use Rattle.vx_srlfmt.specs.Headers.{CanSpellHeader}
use Rattle.vx_srlfmt.specs.declared.header.Header.{Header}
use Rattle.vx_ringio.specs.Classes.{is_of_ring}
use Rattle.vx_srl.specs.Calls.{saved}
use Rattle.vx_srl.specs.Headers.{without}
use Rattle.vx_srl.specs.Kepts.{IsLogKept}
use Rattle.vx_srl.specs.Views.{IsOrdered, Log, count_to, place_after, widths}
use Rattle.vx_srl.specs.declared.kept.Kept.{Kept}
use Rattle.vx_srl.proofs.LogLists.{end_behind, first_held, held_behind, ordered_behind, staged_behind}

-- where the header of a reclaim begins
reclaim_place : (v l : Log) (g : Header) (n : ℕ) → v ≡ l → n ≡ count_to l (g.low - 1) → g ≡ without l (g.low - 1) → g.place ≡ place_after v.ring v.header.place (take n v.held)
reclaim_place v l g n same n_is is =
    subst (λ (x : Log). n ≡ count_to x (g.low - 1) → g ≡ without x (g.low - 1) → g.place ≡ place_after v.ring v.header.place (take n v.held)) same
    (λ nis gis. ap (λ (h : Header). h.place) gis ∙ ap (λ (m : ℕ). place_after v.ring v.header.place (take m v.held)) (sym nis)) n_is is

reclaim_low : (v l : Log) (g : Header) (n : ℕ) → v ≡ l → n ≡ count_to l (g.low - 1) → g.low ≤ v.header.low + n
reclaim_low v l g n same n_is = omega (arith, n_is, ap (λ (x : Log). x.header.low) same)

-- the fields as the reclaim leaves them, of which the first n records are gone
module _ (unit ring : ℕ) (h g : Header) (ks : List Kept) (capacity s end used n : ℕ) (l : Log) where
  abbrev View : Log
  View = record { unit = unit; ring = ring; header = h; held = take s ks; staged = drop s ks }

  module _ (same : View ≡ l) (held : n ≤ length l.held) (n_is : n ≡ count_to l (g.low - 1)) (is : g ≡ without l (g.low - 1)) where
    few : n ≤ s
    few = omega (arith, held, ap (λ (x : Log). length x.held) same, length-take s ks)

    within : s ≤ length ks → n ≤ length ks
    within le = omega (arith, few, le)

    place : g.place ≡ place_after ring h.place (take n ks)
    place = reclaim_place View l g n same n_is is ∙ ap (λ (xs : List Kept). place_after ring h.place xs) (first_held n s ks few)

    module _ (new_ring new_s new_end new_used new_capacity : ℕ) (new_ks : List Kept) (ring_is : new_ring ≡ ring) (s_is : new_s ≡ s) (end_is : new_end ≡ end) (ks_is : new_ks ≡ drop n ks) where
      pub still_kept : IsLogKept ring h ks capacity s end used → CanSpellHeader g → is_of_ring l.ring g ≡ true → new_used ≡ widths new_ks → new_capacity ≡ capacity
          → IsLogKept new_ring g new_ks new_capacity (new_s - n) new_end new_used
      still_kept kept spell of_ring used_is capacity_is =
          let mine : is_of_ring ring g ≡ true = subst (λ (r : ℕ). is_of_ring r g ≡ true) (sym (ap (λ (x : Log). x.ring) same)) of_ring in
          record {
            ordered = subst (λ (r : ℕ). IsOrdered r g new_ks) (sym ring_is) (subst (λ (xs : List Kept). IsOrdered ring g xs) (sym ks_is)
                (ordered_behind ring h g n ks (within kept.few) spell mine (reclaim_low View l g n same n_is) place kept.ordered));
            room = omega (arith, kept.room, ring_is, capacity_is);
            few = omega (arith, kept.few, s_is, few, ap (λ (xs : List Kept). length xs) ks_is, length-drop n ks);
            end_is = end_is ∙ kept.end_is ∙ end_behind ring h g n ks place ∙ ap (λ (xs : List Kept). place_after ring g.place xs) (sym ks_is) ∙ ap (λ (r : ℕ). place_after r g.place new_ks) (sym ring_is);
            used_is = used_is;
          }

      pub is_saved : (new_unit : ℕ) → new_unit ≡ unit → record { unit = new_unit; ring = new_ring; header = g; held = take (new_s - n) new_ks; staged = drop (new_s - n) new_ks } ≡ saved l g n
      is_saved new_unit unit_is =
          ap (λ (x : ℕ). record { unit = x; ring = new_ring; header = g; held = take (new_s - n) new_ks; staged = drop (new_s - n) new_ks }) unit_is
          ∙ ap (λ (x : ℕ). record { unit = unit; ring = x; header = g; held = take (new_s - n) new_ks; staged = drop (new_s - n) new_ks }) ring_is
          ∙ ap (λ (x : ℕ). record { unit = unit; ring = ring; header = g; held = take (x - n) new_ks; staged = drop (x - n) new_ks }) s_is
          ∙ ap (λ (xs : List Kept). record { unit = unit; ring = ring; header = g; held = take (s - n) xs; staged = drop (s - n) xs }) ks_is
          ∙ ap (λ (xs : List Kept). record { unit = unit; ring = ring; header = g; held = xs; staged = drop (s - n) (drop n ks) }) (held_behind n s ks few)
          ∙ ap (λ (xs : List Kept). record { unit = unit; ring = ring; header = g; held = drop n (take s ks); staged = xs }) (staged_behind n s ks few)
          ∙ ap (λ (x : Log). saved x g n) same
