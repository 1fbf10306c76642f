-- Which disks a mark changes.
use Rattle.std.proofs.Common.{◌≡◌, ℕ, zero, suc, ◌<◌, true, false, List, [], ◌∷◌, length, length-set, refl, ap, sym, subst, ◌∙◌, arith}
use Rattle.std.specs.Prelude.{slice_set}
use Rattle.vx_disk.specs.Counts.{Rose}
use Rattle.vx_disk.specs.Shelf.{Meaning}
use Rattle.vx_config.specs.declared.config.Config.{Config}
use Rattle.vx_config.specs.declared.entry.DiskEntry.{DiskEntry}
use Rattle.vx_copies.specs.Commits.{Grown}
use Rattle.vx_copies.specs.Marks.{blocks_at, failed_at, marked}
use Rattle.vx_copies.proofs.Marked.{failed_now}

failed_set : (ds : List DiskEntry) (k u : ℕ) (d : DiskEntry) → d.failed ≡ true → failed_at ds u ≡ true → failed_at (slice_set ds k d) u ≡ true
failed_set [] k u d is was = was
failed_set (x ∷ ds) zero zero d is was = is
failed_set (x ∷ ds) zero (suc u) d is was = was
failed_set (x ∷ ds) (suc k) zero d is was = was
failed_set (x ∷ ds) (suc k) (suc u) d is was = failed_set ds k u d is was

failed_new : (ds : List DiskEntry) (k u : ℕ) (d : DiskEntry) → failed_at ds u ≡ false → failed_at (slice_set ds k d) u ≡ true → u ≡ k
failed_new [] k u d was is = let clash : false ≡ true = sym was ∙ is in absurd cc
failed_new (x ∷ ds) zero zero d was is = refl
failed_new (x ∷ ds) zero (suc u) d was is = let clash : false ≡ true = sym was ∙ is in absurd cc
failed_new (x ∷ ds) (suc k) zero d was is = let clash : false ≡ true = sym was ∙ is in absurd cc
failed_new (x ∷ ds) (suc k) (suc u) d was is = ap suc (failed_new ds k u d was is)

blocks_set : (ds : List DiskEntry) (k u : ℕ) → blocks_at (slice_set ds k (failed_now ds k)) u ≡ blocks_at ds u
blocks_set [] k u = refl
blocks_set (x ∷ ds) zero zero = refl
blocks_set (x ∷ ds) zero (suc u) = refl
blocks_set (x ∷ ds) (suc k) zero = refl
blocks_set (x ∷ ds) (suc k) (suc u) = blocks_set ds k u

failed_here : (ds : List DiskEntry) (k : ℕ) (d : DiskEntry) → k < length ds → d.failed ≡ true → failed_at (slice_set ds k d) k ≡ true
failed_here [] k d lt is = absurd (omega (arith, lt))
failed_here (x ∷ ds) zero d lt is = is
failed_here (x ∷ ds) (suc k) d lt is = failed_here ds k d (omega (arith, lt)) is

-- a configuration that differs in its serial alone
pub serial_grown : (c : Config) (s : ℕ) (old new : Meaning) → Grown old new c (record { serial = s; site = c.site; disks = c.disks; volumes = c.volumes; rvg = c.rvg })
serial_grown c s old new = record {
  site = refl;
  disks = record { count = refl; blocks = λ u. refl; stays = λ u was. was; blamed = λ u was is. let clash : false ≡ true = sym was ∙ is in absurd cc };
  volumes = refl;
  rvg = refl;
}

-- or of which one disk is marked beside
pub mark_grown : (c : Config) (s k : ℕ) (d : Config) (old new : Meaning) → Rose (old.faults k) (new.faults k)
    → d ≡ marked (record { serial = s; site = c.site; disks = c.disks; volumes = c.volumes; rvg = c.rvg }) k → Grown old new c d
mark_grown c s k d old new rose is = subst (Grown old new c) (sym is) (record {
  site = refl;
  disks = record {
    count = length-set c.disks k (failed_now c.disks k);
    blocks = λ u. blocks_set c.disks k u;
    stays = λ u was. failed_set c.disks k u (failed_now c.disks k) refl was;
    blamed = λ u was now. subst (λ (n : ℕ). Rose (old.faults n) (new.faults n)) (sym (failed_new c.disks k u (failed_now c.disks k) was now)) rose;
  };
  volumes = refl;
  rvg = refl;
})

-- and no other one is
pub mark_new : (c : Config) (s k u : ℕ) (d : Config) → d ≡ marked (record { serial = s; site = c.site; disks = c.disks; volumes = c.volumes; rvg = c.rvg }) k
    → failed_at c.disks u ≡ false → failed_at d.disks u ≡ true → u ≡ k
mark_new c s k u d is was now = failed_new c.disks k u (failed_now c.disks k) was (sym (ap (λ (x : Config). failed_at x.disks u) is) ∙ now)

-- a disk that is still held as good is another one
pub mark_other : (c : Config) (s k u : ℕ) (d : Config) → k < length c.disks → d ≡ marked (record { serial = s; site = c.site; disks = c.disks; volumes = c.volumes; rvg = c.rvg }) k
    → failed_at d.disks u ≡ false → u ≡ k → ⊥
mark_other c s k u d lt is good same =
    let there : failed_at d.disks k ≡ true = ap (λ (x : Config). failed_at x.disks k) is ∙ failed_here c.disks k (failed_now c.disks k) lt refl in
    let clash : false ≡ true = sym (subst (λ (n : ℕ). failed_at d.disks n ≡ false) same good) ∙ there in
    cc
