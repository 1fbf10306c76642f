-- A run of the maps of all plexes, as one of the map of one plex.
use Rattle.std.proofs.Common.{◌≡◌, ◌∙◌, ◌⊎◌, inl, inr, ⊎_elim, ℕ, ◌+◌, ◌-◌, ◌*◌, ◌<◌, ◌≤◌, Bool, false, sym, ap, subst, arith}
use Rattle.std.specs.Prelude.{◌&&◌, leb, if◌then◌else◌}
use Rattle.std.proofs.lemmas.Bool.{and_parts, cases_lt, le-leb, leb-true}
use Rattle.std.proofs.lemmas.Bool.Decides.{nat_tests}
use Rattle.vx_bitmap.specs.Bits.{AllAre, Between, Changed, is_among}
use Rattle.vx_bitmap.proofs.Runs.{slot_before}

same_test : (b x y : ℕ) → leb (b + x) (b + y) ≡ leb x y
same_test b x y =
    ⊎_elim
    (λ (gt : y < x). let one : leb (b + x) (b + y) ≡ false = far (b + x) (b + y) (omega (arith, gt)) in let two : leb x y ≡ false = far x y gt in one ∙ sym two)
    (λ (le : x ≤ y). le-leb (b + x) (b + y) (omega (arith, le)) ∙ sym (le-leb x y le))
    (cases_lt y x)
  where
    far : (i j : ℕ) → j < i → leb i j ≡ false
    far i j lt = grind (arith, nat_tests)

among_same : (b first last r : ℕ) → is_among (b + first) (b + last) (b + r) ≡ is_among first last r
among_same b first last r = ap (λ (t : Bool). t && leb (b + r) (b + last)) (same_test b first r) ∙ ap (λ (t : Bool). leb first r && t) (same_test b r last)

module _ (plexes stride bits plex first last : ℕ) (value : Bool) (old new : ℕ → Bool) (fits : plexes * stride ≤ bits) (there : plex < plexes) where
  inside : (r : ℕ) → r < stride → plex * stride + r < bits
  inside r low = omega (arith, low, slot_before plex plexes stride there, fits)

  pub plex_changed : Changed (plex * stride + first) (plex * stride + last) value bits old new → Changed first last value stride (λ r. old (plex * stride + r)) (λ r. new (plex * stride + r))
  plex_changed changed = record {
    each = λ r low. changed.each (plex * stride + r) (inside r low) ∙ ap (λ (t : Bool). if t then value else old (plex * stride + r)) (among_same (plex * stride) first last r);
  }

  pub plex_part : Between (plex * stride + first) (plex * stride + last) value bits old new → Between first last value stride (λ r. old (plex * stride + r)) (λ r. new (plex * stride + r))
  plex_part part = record {
    each = λ r low. elim (part.each (plex * stride + r) (inside r low)) [
      | inl same ↦ inl same
      | inr now ↦ inr (sym (among_same (plex * stride) first last r) ∙ now.0, now.1)
    ];
  }

  -- no region of another plex is one of the run
  pub others_same : last < stride → Between (plex * stride + first) (plex * stride + last) value bits old new → (p r : ℕ) → p < plexes → r < stride → (p ≡ plex → ⊥) → new (p * stride + r) ≡ old (p * stride + r)
  others_same end part p r lt low other =
      elim (part.each (p * stride + r) (omega (arith, low, slot_before p plexes stride lt, fits))) [
        | inl same ↦ same
        | inr now ↦
            (let parts = and_parts (leb (plex * stride + first) (p * stride + r)) (leb (p * stride + r) (plex * stride + last)) now.0 in
            let from : plex * stride + first ≤ p * stride + r = leb-true (plex * stride + first) (p * stride + r) parts.0 in
            let to : p * stride + r ≤ plex * stride + last = leb-true (p * stride + r) (plex * stride + last) parts.1 in
            absurd (⊎_elim
            (λ (less : p < plex). omega (arith, from, low, slot_before p plex stride less))
            (λ (more : plex ≤ p). let above : plex < p = omega (arith, more, other) in omega (arith, to, end, slot_before plex p stride above))
            (cases_lt p plex)))
      ]

pub all_at : (base first last : ℕ) (value : Bool) (marks : ℕ → Bool) → AllAre first last value (λ r. marks (base + r)) → AllAre (base + first) (base + last) value marks
all_at base first last value marks all = record {
  each = λ r low high.
      let e : base + (r - base) ≡ r = omega (arith, low) in
      subst (λ (k : ℕ). marks k ≡ value) e (all.each (r - base) (omega (arith, low)) (omega (arith, low, high)));
}
