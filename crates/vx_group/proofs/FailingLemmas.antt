-- Disks that are held as failed, in one call and in two in a row; and configurations that differ in such flags alone.
use Rattle.std.proofs.Common.{◌≡◌, inl, inr, ℕ, zero, suc, ◌+◌, ◌≤◌, Bool, true, false, List, [], ◌∷◌, length, Option, Result, Ok, Err, OnOk, refl, ap, sym, ◌∙◌, subst, arith}
use Rattle.std.specs.Prelude.{◌&&◌, ◌==◌, if◌then◌else◌, flat_map, nat_le, slice_get}
use Rattle.std.specs.List.{list_all}
use Rattle.vx_disk.specs.Shelf.{Meaning}
use Rattle.vx_disk.proofs.Causing.{Rose_after, Rose_before}
use Rattle.vx_model.specs.declared.units.Units.{Units}
use Rattle.vx_config.specs.Checks.{ends_within, in_region, is_sound, runs, volume_runs}
use Rattle.vx_config.specs.declared.config.Config.{Config}
use Rattle.vx_config.specs.declared.entry.DiskEntry.{DiskEntry}
use Rattle.vx_config.specs.declared.entry.Subdisk.{Subdisk}
use Rattle.vx_config.specs.declared.entry.VolumeEntry.{VolumeEntry}
use Rattle.vx_copies.specs.Bodies.{fits_units, have_blocks, is_wanted}
use Rattle.vx_copies.specs.Commits.{IsFew, MoreFailed}
use Rattle.vx_copies.specs.Marks.{blocks_at, failed_at, good_count}
use Rattle.vx_copies.proofs.OneTry.{held_or}

-- ---- calls in a row

pub no_failing : (m m' : Meaning) (before after : List DiskEntry) → after ≡ before → MoreFailed m m' before after
no_failing m m' before after is = record {
  count = ap length is;
  blocks = λ u. ap (λ (ds : List DiskEntry). blocks_at ds u) is;
  stays = λ u failed. ap (λ (ds : List DiskEntry). failed_at ds u) is ∙ failed;
  blamed = λ u was now. absurd (let clash : false ≡ true = sym was ∙ sym (ap (λ (ds : List DiskEntry). failed_at ds u) is) ∙ now in cc);
}

pub failing_from : (m m' : Meaning) (a b c : List DiskEntry) → a ≡ b → MoreFailed m m' a c → MoreFailed m m' b c
failing_from m m' a b c is more = subst (λ (ds : List DiskEntry). MoreFailed m m' ds c) is more

pub then_failing : (m0 m1 m2 : Meaning) → ((u : ℕ) → m0.faults u ≤ m1.faults u) → ((u : ℕ) → m1.faults u ≤ m2.faults u) → (a b c : List DiskEntry) → MoreFailed m0 m1 a b → MoreFailed m1 m2 b c → MoreFailed m0 m2 a c
then_failing m0 m1 m2 one two a b c first second = record {
  count = second.count ∙ first.count;
  blocks = λ u. second.blocks u ∙ first.blocks u;
  stays = λ u failed. second.stays u (first.stays u failed);
  blamed = λ u was is. elim (held_or b u) [
    | inl good ↦ Rose_before (m0.faults u) (m1.faults u) (m2.faults u) (one u) (second.blamed u good is)
    | inr failed ↦ Rose_after (m0.faults u) (m1.faults u) (m2.faults u) (first.blamed u was failed) (two u)
  ];
}

-- ---- how many are held as good

good_few : (ds : List DiskEntry) → good_count ds ≤ length ds
good_few [] = omega arith
good_few (d ∷ ds) = by d.failed (good_few ds)
  where
    by : (b : Bool) → good_count ds ≤ length ds → good_count ds + (if b then 0 else 1) ≤ length (d ∷ ds)
    by true few = omega (arith, few)
    by false few = omega (arith, few)

pub few_serial : (c a d : Config) → a.serial ≡ c.serial → a.disks ≡ c.disks → IsFew 1 a d → d.serial ≤ c.serial + 1 + length c.disks
few_serial c a d serial disks few =
    let le : good_count c.disks ≤ length c.disks = good_few c.disks in
    let same : good_count a.disks ≡ good_count c.disks = ap good_count disks in
    omega (arith, few, le, same, serial)

pub few_ok : {T E : Type 0} (r : Result T E) (s t n k count : ℕ) → OnOk r (n ≤ t + 1 + k) → t ≡ s → k ≡ count → OnOk r (n ≤ s + 1 + count)
few_ok (Ok x) s t n k count le serial same = omega (arith, le, serial, same)
few_ok (Err error) s t n k count le serial same = tt

pub few_nine : {T E : Type 0} (r : Result T E) (s t n k : ℕ) → OnOk r (n ≤ t + 1 + k) → t ≡ s → k ≤ 8 → OnOk r (n ≤ s + 9)
few_nine (Ok x) s t n k le serial few = omega (arith, le, serial, few)
few_nine (Err error) s t n k le serial few = tt

-- ---- a configuration of the same disks

ends_same : (r : Subdisk) (xs ys : List DiskEntry) (u : ℕ) → length xs ≡ length ys → ((k : ℕ) → blocks_at xs k ≡ blocks_at ys k) → ends_within r (slice_get xs u) ≡ ends_within r (slice_get ys u)
ends_same r [] [] u count blocks = refl
ends_same r [] (b ∷ ys) u count blocks = absurd (omega (arith, count))
ends_same r (a ∷ xs) [] u count blocks = absurd (omega (arith, count))
ends_same r (a ∷ xs) (b ∷ ys) zero count blocks = ap (λ (n : ℕ). nat_le 512 r.start && nat_le (r.start + r.blocks) n) (blocks 0)
ends_same r (a ∷ xs) (b ∷ ys) (suc u) count blocks = ends_same r xs ys u (omega (arith, count)) (λ k. blocks (suc k))

regions_same : (xs ys : List DiskEntry) (rs : List Subdisk) → length xs ≡ length ys → ((k : ℕ) → blocks_at xs k ≡ blocks_at ys k) → list_all (in_region xs) rs ≡ list_all (in_region ys) rs
regions_same xs ys [] count blocks = refl
regions_same xs ys (r ∷ rs) count blocks =
    ap (λ (b : Bool). b && list_all (in_region xs) rs) (ends_same r xs ys r.disk count blocks) ∙ ap (λ (b : Bool). in_region ys r && b) (regions_same xs ys rs count blocks)

have_same : (size : ℕ → ℕ) (n : ℕ) (xs ys : List DiskEntry) → length xs ≡ length ys → ((k : ℕ) → blocks_at xs k ≡ blocks_at ys k) → have_blocks size n xs ≡ have_blocks size n ys
have_same size n [] [] count blocks = refl
have_same size n [] (b ∷ ys) count blocks = absurd (omega (arith, count))
have_same size n (a ∷ xs) [] count blocks = absurd (omega (arith, count))
have_same size n (a ∷ xs) (b ∷ ys) count blocks =
    ap (λ (x : ℕ). (x == size n) && have_blocks size (n + 1) xs) (blocks 0) ∙ ap (λ (t : Bool). (b.blocks == size n) && t) (have_same size (n + 1) xs ys (omega (arith, count)) (λ k. blocks (suc k)))

abbrev parts : ℕ → ℕ → List DiskEntry → List VolumeEntry → Option Units → Config
parts serial site disks volumes rvg = record { serial = serial; site = site; disks = disks; volumes = volumes; rvg = rvg }

pub sound_same : (c : Config) (serial site : ℕ) (ds : List DiskEntry) → length ds ≡ length c.disks → ((k : ℕ) → blocks_at ds k ≡ blocks_at c.disks k) → is_sound (parts serial site ds c.volumes c.rvg) ≡ is_sound c
unfolding is_sound runs
sound_same c serial site ds count blocks = rw (regions_same ds c.disks (flat_map volume_runs c.volumes) count blocks) refl

-- it is as good as one that differs in serial, site and flags of disks alone
pub wanted_flags : (units : ℕ) (size : ℕ → ℕ) (c d : Config) → length d.disks ≡ length c.disks → ((k : ℕ) → blocks_at d.disks k ≡ blocks_at c.disks k) → d.volumes ≡ c.volumes → d.rvg ≡ c.rvg
    → is_wanted units size c ≡ true → is_wanted units size d ≡ true
wanted_flags units size c d count blocks volumes rvg wanted =
    let sound : is_sound d ≡ is_sound c =
    ap (λ (vs : List VolumeEntry). is_sound (parts d.serial d.site d.disks vs d.rvg)) volumes ∙ ap (λ (r : Option Units). is_sound (parts d.serial d.site d.disks c.volumes r)) rvg
    ∙ sound_same c d.serial d.site d.disks count blocks in
    ap (λ (b : Bool). b && fits_units units size d) sound
    ∙ ap (λ (n : ℕ). is_sound c && ((n == units) && have_blocks size 0 d.disks)) count
    ∙ ap (λ (b : Bool). is_sound c && ((length c.disks == units) && b)) (have_same size 0 d.disks c.disks count blocks)
    ∙ wanted
