-- What is known of a configuration of which a disk is held as failed.
use Rattle.std.proofs.Common.{◌≡◌, ◌⊎◌, inl, inr, ℕ, zero, suc, ◌+◌, ◌<◌, Bool, true, false, List, [], ◌∷◌, length, get_or, length-set, refl, ap, sym, subst, ◌∙◌, arith}
use Rattle.std.specs.Prelude.{◌&&◌, ◌==◌, slice_get, slice_set, flat_map}
use Rattle.std.specs.List.{list_all}
use Rattle.std.proofs.lemmas.Bool.{cases_lt}
use Rattle.vx_disk.specs.Blocks.{bit_at}
use Rattle.vx_config.specs.Checks.{ends_within, in_region, is_sound, runs, volume_runs}
use Rattle.vx_config.specs.declared.config.Config.{Config}
use Rattle.vx_config.specs.declared.entry.DiskEntry.{DiskEntry}
use Rattle.vx_config.specs.declared.entry.Subdisk.{Subdisk}
use Rattle.vx_copies.specs.Bodies.{fits_units, have_blocks, is_wanted}
use Rattle.vx_copies.specs.Marks.{HasGood, NoneGood, blocks_at, failed_at, good_count, marked}

pub none_more : (disks : List DiskEntry) (k good : ℕ) → NoneGood disks k good → (failed_at disks k ≡ true) ⊎ (bit_at good k ≡ false) → NoneGood disks (k + 1) good
none_more disks k good none last = record {
  each = λ u lt bit. elim (cases_lt u k) [
    | inl below ↦ none.each u below bit
    | inr above ↦
        let same : k ≡ u = omega (arith, lt, above) in
        elim last [
          | inl failed ↦ subst (λ (n : ℕ). failed_at disks n ≡ true) same failed
          | inr out ↦ let clash : false ≡ true = sym (subst (λ (n : ℕ). bit_at good n ≡ false) same out) ∙ bit in absurd cc
        ]
  ];
}

-- ---- what a mark leaves as it was

abbrev pub failed_now : List DiskEntry → ℕ → DiskEntry
failed_now ds k = record { blocks = blocks_at ds k; failed = true }

pub blocks_is : (ds : List DiskEntry) (k : ℕ) (d : DiskEntry) → k < length ds → blocks_at ds k ≡ (get_or ds k d).blocks
blocks_is [] k d lt = absurd (omega (arith, lt))
blocks_is (x ∷ ds) zero d lt = refl
blocks_is (x ∷ ds) (suc k) d lt = blocks_is ds k d (omega (arith, lt))

have_kept : (size : ℕ → ℕ) (n : ℕ) (ds : List DiskEntry) (k : ℕ) → k < length ds → have_blocks size n (slice_set ds k (failed_now ds k)) ≡ have_blocks size n ds
have_kept size n [] k lt = absurd (omega (arith, lt))
have_kept size n (d ∷ ds) zero lt = refl
have_kept size n (d ∷ ds) (suc k) lt = ap (λ (b : Bool). (d.blocks == size n) && b) (have_kept size (n + 1) ds k (omega (arith, lt)))

ends_kept : (r : Subdisk) (ds : List DiskEntry) (k u : ℕ) → k < length ds → ends_within r (slice_get (slice_set ds k (failed_now ds k)) u) ≡ ends_within r (slice_get ds u)
ends_kept r [] k u lt = absurd (omega (arith, lt))
ends_kept r (d ∷ ds) zero zero lt = refl
ends_kept r (d ∷ ds) zero (suc u) lt = refl
ends_kept r (d ∷ ds) (suc k) zero lt = refl
ends_kept r (d ∷ ds) (suc k) (suc u) lt = ends_kept r ds k u (omega (arith, lt))

regions_kept : (ds : List DiskEntry) (k : ℕ) (rs : List Subdisk) → k < length ds → list_all (in_region (slice_set ds k (failed_now ds k))) rs ≡ list_all (in_region ds) rs
regions_kept ds k [] lt = refl
regions_kept ds k (r ∷ rs) lt =
    ap (λ (b : Bool). b && list_all (in_region (slice_set ds k (failed_now ds k))) rs) (ends_kept r ds k r.disk lt) ∙ ap (λ (b : Bool). in_region ds r && b) (regions_kept ds k rs lt)

sound_kept : (c : Config) (k : ℕ) → k < length c.disks → is_sound (marked c k) ≡ is_sound c
unfolding is_sound runs
sound_kept c k lt = rw (regions_kept c.disks k (flat_map volume_runs c.volumes) lt) refl

pub wanted_kept : (units : ℕ) (size : ℕ → ℕ) (c : Config) (k : ℕ) → k < length c.disks → is_wanted units size (marked c k) ≡ is_wanted units size c
wanted_kept units size c k lt =
    ap (λ (b : Bool). b && fits_units units size (marked c k)) (sound_kept c k lt)
    ∙ ap (λ (n : ℕ). is_sound c && ((n == units) && have_blocks size 0 (marked c k).disks)) (length-set c.disks k (failed_now c.disks k))
    ∙ ap (λ (b : Bool). is_sound c && ((length c.disks == units) && b)) (have_kept size 0 c.disks k lt)

pub good_falls : (ds : List DiskEntry) (k : ℕ) (d : DiskEntry) → k < length ds → failed_at ds k ≡ false → d.failed ≡ true → good_count (slice_set ds k d) + 1 ≡ good_count ds
good_falls [] k d lt held failed = absurd (omega (arith, lt))
good_falls (x ∷ ds) zero d lt held failed = rw (held, failed) (omega arith)
good_falls (x ∷ ds) (suc k) d lt held failed = omega (arith, good_falls ds k d (omega (arith, lt)) held failed)

module _ (c : Config) (k : ℕ) (after : List DiskEntry) (lt : k < length c.disks) (is : after ≡ slice_set c.disks k (failed_now c.disks k)) where
  pub mark_wanted : (units : ℕ) (size : ℕ → ℕ) → is_wanted units size c ≡ true
      → is_wanted units size (record { serial = c.serial; site = c.site; disks = after; volumes = c.volumes; rvg = c.rvg }) ≡ true
  mark_wanted units size wanted =
      ap (λ (ds : List DiskEntry). is_wanted units size (record { serial = c.serial; site = c.site; disks = ds; volumes = c.volumes; rvg = c.rvg })) is ∙ wanted_kept units size c k lt ∙ wanted

  pub mark_falls : failed_at c.disks k ≡ false → good_count after + 1 ≡ good_count c.disks
  mark_falls held = subst (λ (ds : List DiskEntry). good_count ds + 1 ≡ good_count c.disks) (sym is) (good_falls c.disks k (failed_now c.disks k) lt held refl)

-- a good disk of a set is one
some_at : (ds : List DiskEntry) (k : ℕ) → k < length ds → failed_at ds k ≡ false → 0 < good_count ds
some_at [] k lt held = absurd (omega (arith, lt))
some_at (x ∷ ds) zero lt held = rw held (omega arith)
some_at (x ∷ ds) (suc k) lt held = omega (arith, some_at ds k (omega (arith, lt)) held)

pub some_good : (ds : List DiskEntry) (good : ℕ) → HasGood ds good → 0 < good_count ds
some_good ds good some = some_at ds some.disk some.below some.held
