-- What a write and a flush do to what a crash may leave.
use Rattle.std.proofs.Common.{◌≡◌, ◌⊎◌, inl, inr, ⊎_elim, ℕ, List, [], ◌∷◌, ◌++◌, refl, sym, ◌∙◌, subst, arith}
use Rattle.std.proofs.lemmas.Bool.{cases_eq}
use Rattle.std.proofs.lemmas.Bool.Decides.{nat_tests}
use Rattle.vx_srlfmt.specs.Kinds.{Kind}
use Rattle.vx_ringlog.specs.Cells.{act, Act, Always, AmongPairs, Cells, flush, RingImage, Leaves, May, newest_value, read, run_all, write}

pub may_write : (u : Cells) (b : ℕ) (v : Kind) (c : ℕ) (w : Kind) → May (write u b v) c w → May u c w ⊎ ((b ≡ c) × (v ≡ w))
may_write u b v c w (inl old) = inl (inl old)
may_write u b v c w (inr (inl new)) = inr new
may_write u b v c w (inr (inr old)) = inl (inr old)

read_among : (s : RingImage) (ps : List (ℕ × Kind)) (b : ℕ) → (newest_value s ps b ≡ s b) ⊎ AmongPairs b (newest_value s ps b) ps
read_among s [] b = inl refl
read_among s (p ∷ ps) b = elim (cases_eq p.0 b) [
  | inl same ↦ inr (inl (same, grind (arith, nat_tests)))
  | inr other ↦ let e : newest_value s (p ∷ ps) b ≡ newest_value s ps b = grind (arith, nat_tests) in
      ⊎_elim (λ is. inl (e ∙ is)) (λ a. inr (inr (subst (λ (v : Kind). AmongPairs b v ps) (sym e) a))) (read_among s ps b)
]

pub may_read : (u : Cells) (b : ℕ) → May u b (read u b)
may_read u b = read_among u.stable u.loose b

pub may_flush : (u : Cells) (b : ℕ) (v : Kind) → May (flush u) b v → v ≡ read u b
may_flush u b v (inl is) = is
may_flush u b v (inr none) = absurd none

pub flush_may : (u : Cells) (b : ℕ) (v : Kind) → May (flush u) b v → May u b v
flush_may u b v m = subst (λ (w : Kind). May u b w) (sym (may_flush u b v m)) (may_read u b)

pub read_same : (u : Cells) (b : ℕ) (v : Kind) → read (write u b v) b ≡ v
read_same u b v = grind (arith, nat_tests)

pub read_other : (u : Cells) (b c : ℕ) (v : Kind) → (b ≡ c → ⊥) → read (write u b v) c ≡ read u c
read_other u b c v ne = grind (arith, nat_tests)

-- first these calls and then those
pub always_append : (P : Cells → Type 0) (u : Cells) (first then : List Act) → Always P u first → Always P (run_all u first) then → Always P u (first ++ then)
always_append P u [] then before behind = behind
always_append P u (a ∷ rest) then before behind = (before.0, always_append P (act u a) rest then before.1 behind)

-- what follows from P holds as long
pub always_more : (P Q : RingImage → Type 0) → ((i : RingImage) → P i → Q i) → (u : Cells) (acts : List Act) → Always (Leaves P) u acts → Always (Leaves Q) u acts
always_more P Q to u [] all = λ i img. to i (all i img)
always_more P Q to u (a ∷ rest) all = ((λ i img. to i (all.0 i img)), always_more P Q to (act u a) rest all.1)
