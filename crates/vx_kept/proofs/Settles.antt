-- What headers that are written back are to a group.
use Rattle.std.proofs.Common.{◌≡◌, inl, inr, ⊎_elim, ℕ, ◌+◌, ◌<◌, ◌≤◌, List, Option, sym, ◌∙◌, subst, arith, IsTrue}
use Rattle.vx_disk.specs.Shelf.{Each, Goes, Lawful, Meaning, Nothing, Or}
use Rattle.vx_copyfmt.specs.Commits.{Counts, Tidy}
use Rattle.vx_copyfmt.proofs.Subs.{counts_sub, tidy_sub}
use Rattle.vx_copyio.specs.Settling.{HeadersAsLeft, OneLeft}
use Rattle.vx_copyio.proofs.Settled.{one_tidy_left}
use Rattle.vx_config.specs.declared.config.Config.{Config}
use Rattle.vx_copies.specs.Looking.{on_shelf}
use Rattle.vx_copies.proofs.OneTry.{shelf_same}
use Rattle.vx_kept.specs.Keeping.{Acts, Kept, Sees}
use Rattle.vx_kept.proofs.Lasting.{cases_bool, sees_same}

module _ (c : Config) (G : ℕ → Type 0) (disk : ℕ) (m m' : Meaning) (goes : Goes (HeadersAsLeft disk m) m m') (lawful : Lawful m) (lawful' : Lawful m') (kept : Kept c G m) where
  told : IsTrue m'.tells → IsTrue m.tells
  told tells = sym goes.tells ∙ tells

  as_was : IsTrue m.tells → (u b : ℕ) (v : List ℕ) → Or m.leaves (HeadersAsLeft disk m) u b v → m.leaves u b v
  as_was tells u b v = ⊎_elim (λ left. left) (λ (put : HeadersAsLeft disk m u b v). put.value tells)

  -- a crash leaves no more than before
  pub no_more : (u b : ℕ) (v : List ℕ) → m'.leaves u b v → m.leaves u b v
  no_more u b v left = elim (cases_bool m'.tells) [
    | inl tells ↦ as_was (told tells) u b v (goes.leaves u b v left)
    | inr not ↦ absurd (lawful'.none not u b v left)
  ]

  pub settled_Acts : Acts Nothing (Sees c G m) m m'
  settled_Acts = record {
    units = goes.units;
    size = goes.size;
    tells = goes.tells;
    reads = λ u b v le is. elim (goes.reads u b v is) [ inl (inl was) ↦ inl (inl was) | inl (inr put) ↦ absurd (far_off u b v le put) | inr down ↦ inr down ];
    leaves = λ u b v le left. inl (no_more u b v left);
    later = goes.later;
    since = λ t i le left. elim (goes.since t i le left) [
      | inl was ↦ inl was
      | inr each ↦ elim (cases_bool m'.tells) [
        | inl tells ↦ let before : Each m.leaves i = λ u b. as_was (told tells) u b (i u b) (each u b) in inr ((λ u b far. inl (before u b)), kept.sees i before)
        | inr not ↦ absurd (lawful'.never not t i left)
      ]
    ];
    keeps = goes.keeps;
    faults = goes.faults;
    disk_faults = goes.disk_faults;
    falls = goes.falls;
    unarmed = goes.unarmed;
    safe = goes.safe;
  }
    where
      far_off : (u b : ℕ) (v : List ℕ) → 512 ≤ b → HeadersAsLeft disk m u b v → ⊥
      far_off u b v le put = ⊎_elim (λ (is : b ≡ 1). absurd (let low : b < 512 = omega (arith, is) in omega (arith, le, low))) (λ (is : b ≡ 129). absurd (let low : b < 512 = omega (arith, is) in omega (arith, le, low))) put.header

  pub settled_Kept : Kept c G m'
  settled_Kept = record {
    below = record { each = λ u lt a v h is left head. kept.below.each u (omega (arith, goes.units, lt)) a v h is (no_more u a v left) head };
    counts = λ u lt. subst (λ (r : ℕ → List ℕ → Option Config). Counts r (m'.leaves u)) (shelf_same m m' goes.units goes.size)
        (counts_sub (on_shelf m) (m.leaves u) (m'.leaves u) (λ b v left. no_more u b v left) (kept.counts u (omega (arith, goes.units, lt))));
    labels = record { each = λ u v lt left. kept.labels.each u v (omega (arith, goes.units, lt)) (no_more u 0 v left) };
    sees = λ i each. sees_same c G m m' goes.units goes.size i (kept.sees i (λ u b. no_more u b (i u b) (each u b)));
  }

  -- the disk is ready for the next commit
  pub settled_tidy : OneLeft disk m' → disk < m'.units → Tidy (on_shelf m') (c.serial + 1) (m'.leaves disk)
  settled_tidy one lt = one_tidy_left (on_shelf m') (c.serial + 1) disk m' (record { counts = settled_Kept.counts disk lt; below = settled_Kept.below.each disk lt }) one

  -- and another disk that was ready still is
  pub still_tidy : (u : ℕ) → Tidy (on_shelf m) (c.serial + 1) (m.leaves u) → Tidy (on_shelf m') (c.serial + 1) (m'.leaves u)
  still_tidy u tidy = subst (λ (r : ℕ → List ℕ → Option Config). Tidy r (c.serial + 1) (m'.leaves u)) (shelf_same m m' goes.units goes.size)
      (tidy_sub (on_shelf m) (m.leaves u) (m'.leaves u) (λ b v left. no_more u b v left) (c.serial + 1) tidy)
