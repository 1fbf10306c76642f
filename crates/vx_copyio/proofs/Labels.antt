-- The labels, one after the other.
use Rattle.std.proofs.Common.{◌≡◌, inl, inr, ⊎_elim, ℕ, ◌+◌, ◌<◌, List, length, ap, sym, subst, ◌∙◌, arith}
use Rattle.std.proofs.lemmas.Bool.{cases_lt}
use Rattle.vx_disk.specs.Shelf.{Meaning, Written, Or, Goes, Keeps, KeepsAll, piece}
use Rattle.vx_disk.proofs.Runs.{piece_one, KeepsAll_one, weaker, both_Goes, same_Goes}
use Rattle.vx_copyfmt.specs.Labels.{label_block, IsLabel}
use Rattle.vx_copyfmt.specs.declared.label.Label.{Label}
use Rattle.vx_copyfmt.proofs.LabelLemmas.{length-label_block}
use Rattle.vx_copyio.specs.Labelling.{LabelWritten, Labelled, label_of}

-- ---- one label

module _ (site u : ℕ) (old new : Meaning) (block : List ℕ) (l : Label) (is_old : l ≡ label_of site u (old.size u)) (is : IsLabel block l) where
  block_is : block ≡ label_block (label_of site u (old.size u))
  block_is = is.is ∙ ap label_block is_old

  long : length block ≡ 512
  long = ap length is.is ∙ length-label_block l

  only_first : (v b : ℕ) (w : List ℕ) → Written u 0 block v b w → (v ≡ u) × (b ≡ 0)
  only_first v b w written = (written.covers.there, omega (arith, written.covers.last, long))

  pub one_goes : u < old.units → Goes (Written u 0 block) old new → Goes (LabelWritten site old) old new
  one_goes there goes = weaker (Written u 0 block) (LabelWritten site old) old new goes as_label
    where
      as_label : (v b : ℕ) (w : List ℕ) → Written u 0 block v b w → LabelWritten site old v b w
      as_label v b w written =
          let at = only_first v b w written in
          record {
            there = subst (λ (k : ℕ). k < old.units) (sym at.0) there;
            first = at.1;
            value = written.value ∙ ap (λ (k : ℕ). piece 0 block k) at.1 ∙ piece_one 0 block long ∙ block_is ∙ ap (λ (k : ℕ). label_block (label_of site k (old.size k))) (sym at.0);
          }

  pub one_only : Goes (Written u 0 block) old new → (v b : ℕ) (w : List ℕ) → (v ≡ u → ⊥) → new.leaves v b w → old.leaves v b w
  one_only goes v b w out left = ⊎_elim (λ was. was) (λ put. absurd (out put.covers.there)) (goes.leaves v b w left)

  pub one_kept : KeepsAll new u 0 block → Keeps new u 0 (label_block (label_of site u (old.size u)))
  one_kept keeps = subst (Keeps new u 0) block_is (KeepsAll_one new u 0 block long keeps)

-- ---- the labels of the disks below k

pub record SoFar (site k : ℕ) (old new : Meaning) : Type 0 where
  pub goes : Goes (LabelWritten site old) old new
  pub labelled : Labelled site k old new

pub none_yet : (site : ℕ) (m : Meaning) → SoFar site 0 m m
none_yet site m = record { goes = same_Goes (LabelWritten site m) m; labelled = record { each = λ u lt. absurd (omega (arith, lt)) } }

pub more_goes : (site : ℕ) (old mid new : Meaning) → Goes (LabelWritten site old) old mid → Goes (LabelWritten site mid) mid new → Goes (LabelWritten site old) old new
more_goes site old mid new one two =
    weaker (Or (LabelWritten site old) (LabelWritten site mid)) (LabelWritten site old) old new (both_Goes (LabelWritten site old) (LabelWritten site mid) old mid new one two)
    (λ u b v. ⊎_elim (λ was. was) (λ is. record { there = subst (λ (n : ℕ). u < n) one.units is.there; first = is.first; value = is.value ∙ ap (λ (n : ℕ). label_block (label_of site u n)) (one.size u) }))

pub one_more : (site k : ℕ) (old mid new : Meaning) → SoFar site k old mid → Goes (LabelWritten site mid) mid new
    → ((u b : ℕ) (v : List ℕ) → (u ≡ k → ⊥) → new.leaves u b v → mid.leaves u b v) → Keeps new k 0 (label_block (label_of site k (mid.size k))) → SoFar site (k + 1) old new
one_more site k old mid new so_far goes only kept = record {
  goes = more_goes site old mid new so_far.goes goes;
  labelled = record {
    each = λ u lt. elim (cases_lt u k) [
      | inl below ↦ record { only = λ v left. (so_far.labelled.each u below).only v (only u 0 v (λ same. omega (arith, same, below)) left) }
      | inr last ↦
          let same : k ≡ u = omega (arith, lt, last) in
          subst (λ (n : ℕ). Keeps new n 0 (label_block (label_of site n (old.size n)))) same (subst (λ (n : ℕ). Keeps new k 0 (label_block (label_of site k n))) (so_far.goes.size k) kept)
    ];
  };
}
