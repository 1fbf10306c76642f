-- A new group stands on its disks.
use Rattle.std.proofs.Common.{◌⊎◌, ◌≡◌, inl, inr, ⊎_elim, ℕ, zero, suc, ◌+◌, ◌<◌, ◌≤◌, ◌^◌, true, false, None, List, [], ◌∷◌, ◌++◌, length, Result, Ok, Err, refl, ap, sym, ◌∙◌, subst, arith}
use Rattle.std.specs.Prelude.{◌==◌, not}
use Rattle.std.proofs.lemmas.Bool.{and_from, and_parts, eq-eqb}
pub use Rattle.vx_disk.proofs.Causing.{cause_before}
use Rattle.vx_disk.proofs.Causing.{Rose_before}
use Rattle.vx_disk.specs.Causes.{DeviceCause, refusal_of}
use Rattle.vx_disk.specs.Shelf.{Goes, Lawful, Meaning}
use Rattle.vx_disk.specs.declared.shelf.ShelfError.{ShelfError}
use Rattle.vx_disk.specs.declared.shelf.ShelfError.TheVariants.{Fault, Down}
use Rattle.vx_model.specs.declared.errors.Stop.{Stop}
use Rattle.vx_model.specs.declared.errors.Stop.TheVariants.{No as Refused, OutOfMemory}
use Rattle.vx_model.specs.declared.no.Counted.TheVariants.{Number}
use Rattle.vx_model.specs.declared.no.No.{No}
use Rattle.vx_model.specs.declared.no.No.TheVariants as refusal
use Rattle.vx_copyfmt.specs.Commits.{IsHeaderBlock}
use Rattle.vx_copyfmt.specs.Imports.{is_label}
use Rattle.vx_copyfmt.specs.Labels.{label_block}
use Rattle.vx_copyfmt.proofs.LabelLemmas.{seen_in-is}
use Rattle.vx_config.specs.Checks.{blocks_of, is_sound, runs}
use Rattle.vx_config.specs.Configs.{CanSpell}
use Rattle.vx_config.specs.Table.{greatest}
use Rattle.vx_config.specs.declared.config.Config.{Config}
use Rattle.vx_config.specs.declared.entry.DiskEntry.{DiskEntry}
use Rattle.vx_config.specs.declared.entry.VolumeEntry.{VolumeEntry}
use Rattle.vx_copies.specs.Bodies.{fits_units, have_blocks, is_wanted}
use Rattle.vx_copies.specs.Answers.{good_set}
use Rattle.vx_copies.specs.Commits.{CommitStops}
use Rattle.vx_copies.specs.Marks.{NoneGood, failed_at}
use Rattle.vx_copies.proofs.Goods.{good_bit}
use Rattle.vx_copyio.specs.Causes.{Failed}
use Rattle.vx_copyio.specs.Labelling.{AreLarge, LabelWritten, Labelled, Labels, label_of}
use Rattle.vx_copyio.specs.Settling.{AllCleared, HeadersZero}
use Rattle.vx_kept.specs.Choice.{live}
use Rattle.vx_kept.specs.Commits.{Member, Taken}
use Rattle.vx_kept.specs.Keeping.{AllOn, Kept}
use Rattle.vx_kept.specs.Trusts.{HasFailed, Trusts}
use Rattle.vx_group.specs.Creates.{IsNewGroup, IsReady, PreparedDisks}
use Rattle.vx_group.specs.declared.inner.Inner.{Inner}
use Rattle.vx_group.proofs.DetachLemmas.{some_good}
use Rattle.vx_group.proofs.FailingLemmas.{few_serial}
use Rattle.vx_group.proofs.Standing.{made}

-- ---- a configuration without volumes

abbrev pub empty_with : ℕ → List DiskEntry → List VolumeEntry → Config
empty_with site disks volumes = record { serial = 0; site = site; disks = disks; volumes = volumes; rvg = None }

abbrev pub empty_config : ℕ → List DiskEntry → Config
empty_config site disks = record { serial = 0; site = site; disks = disks; volumes = []; rvg = None }

empty_sound : (site : ℕ) (disks : List DiskEntry) → is_sound (empty_config site disks) ≡ true
unfolding is_sound runs
empty_sound site disks = refl

pub empty_on : (site : ℕ) (disks : List DiskEntry) → AllOn (empty_config site disks)
unfolding live
empty_on site disks = record { each = λ v p is. absurd (let clash : false ≡ true = is in cc) }

pub empty_can : (site : ℕ) (disks : List DiskEntry) → 0 < length disks → CanSpell (empty_config site disks)
empty_can site disks some = record { serial = omega arith; disks = some; rvg = tt }

pub empty_wanted : (site : ℕ) (disks : List DiskEntry) (units : ℕ) (size : ℕ → ℕ) → length disks ≡ units → have_blocks size 0 disks ≡ true → is_wanted units size (empty_config site disks) ≡ true
empty_wanted site disks units size count blocks =
    and_from (is_sound (empty_config site disks)) (fits_units units size (empty_config site disks)) (empty_sound site disks)
    (and_from (length disks == units) (have_blocks size 0 disks) (eq-eqb (length disks) units count) blocks)

-- one disk more
pub blocks_more : (size : ℕ → ℕ) (k : ℕ) (ds : List DiskEntry) (d : DiskEntry) → have_blocks size k ds ≡ true → d.blocks ≡ size (k + length ds) → have_blocks size k (ds ++ d ∷ []) ≡ true
blocks_more size k [] d is same = and_from (d.blocks == size k) true (eq-eqb d.blocks (size k) (same ∙ ap size (omega arith))) refl
blocks_more size k (e ∷ ds) d is same =
    let parts = and_parts (e.blocks == size k) (have_blocks size (k + 1) ds) is in
    and_from (e.blocks == size k) (have_blocks size (k + 1) (ds ++ d ∷ [])) parts.0 (blocks_more size (k + 1) ds d parts.1 (same ∙ ap size (omega arith)))

pub good_more : (ds : List DiskEntry) (d : DiskEntry) → d.failed ≡ false → ((u : ℕ) → failed_at ds u ≡ false) → (u : ℕ) → failed_at (ds ++ d ∷ []) u ≡ false
good_more [] d good all zero = good
good_more [] d good all (suc u) = refl
good_more (e ∷ ds) d good all zero = all 0
good_more (e ∷ ds) d good all (suc u) = good_more ds d good (λ k. all (suc k)) u

-- some disk is held as good where all are
pub all_good : (ds : List DiskEntry) → 0 < length ds → ((u : ℕ) → failed_at ds u ≡ false) → NoneGood ds (length ds) (good_set ds) → ⊥
all_good ds some all = some_good ds (good_set ds) (record { disk = 0; below = some; held = all 0; member = good_bit ds 0 some ∙ ap not (all 0) })

-- ---- disks with labels and without headers

module _ (site : ℕ) (m0 m1 m2 : Meaning) (small : site < 2 ^ 32) (before : Lawful m1) (clears : Goes (HeadersZero m0) m0 m1) (cleared : AllCleared m0.units m1) (labels : Goes (LabelWritten site m1) m1 m2) (labelled : Labelled site m1.units m1 m2) where
  first_apart : (b : ℕ) → IsHeaderBlock b → b ≡ 0 → ⊥
  first_apart b (inl is) first = omega (arith, is, first)
  first_apart b (inr is) first = omega (arith, is, first)

  pub prepared : PreparedDisks m0 m2
  prepared = record {
    same = record { units = labels.units ∙ clears.units; size = λ u. labels.size u ∙ clears.size u };
    cleared = record {
      each = λ u lt. record {
        none = λ b v is left. ⊎_elim
            (λ was. (cleared.each u (omega (arith, labels.units, clears.units, lt))).none b v is was)
            (λ (put : LabelWritten site m1 u b v). absurd (first_apart b is put.first)) (labels.leaves u b v left);
      };
    };
    labels = record {
      each = λ u v lt left.
          let there : u < m1.units = omega (arith, labels.units, lt) in
          let is : v ≡ label_block (label_of site u (m1.size u)) = (labelled.each u there).only v left in
          ap is_label (seen_in-is v (label_of site u (m1.size u)) (record { typed = record { site = small; disk = let few = before.few in omega (arith, few, there); blocks = before.small u }; is = is }));
    };
  }

-- ---- why none was made

pub failed_cause : (T : Type 0) (old new : Meaning) (error : ShelfError) → Failed {T = T} old new (Err error) → DeviceCause old new (refusal_of error)
failed_cause T old new (Fault disk) why = why
failed_cause T old new Down down = down

pub labels_ready : {T : Type 0} (site : ℕ) (m0 m1 m2 : Meaning) → ((d : ℕ) → m0.disk_faults d ≤ m1.disk_faults d) → (r : Result T Stop) → (Labelled site m1.units m1 m2 → PreparedDisks m0 m2) → Labels site m1 m2 r → IsReady m0 m2 r
labels_ready site m0 m1 m2 less (Ok x) ready labelled = ready labelled
labels_ready site m0 m1 m2 less (Err (Refused why)) ready cause = cause_before m0 m1 m2 less why cause
labels_ready site m0 m1 m2 less (Err OutOfMemory) ready none = absurd none

-- a first commit is refused for a disk of the set, or with the shelf down
pub first_cause : (good : ℕ) (c : Config) (last : ℕ) (old new : Meaning) → (NoneGood c.disks (length c.disks) good → ⊥) → c.serial < greatest → (why : No) → CommitStops good c last old new why → DeviceCause old new why
first_cause good c last old new some more (refusal.Device disk) stops = ⊎_elim (λ rose. rose) (λ none. absurd (some none.0)) stops.1
first_cause good c last old new some more refusal.Down stops = stops.1
first_cause good c last old new some more (refusal.Limit Number most) stops = absurd (let le : greatest ≤ c.serial = stops.0 in omega (arith, le, more))
first_cause good c last old new some more other stops = absurd stops

-- ---- the group

pub new_Stands : (site : ℕ) (disks : List DiskEntry) (core : Inner) (first old new : Meaning) → ((u : ℕ) → first.faults u ≤ old.faults u) → ((u : ℕ) → failed_at disks u ≡ false) → AreLarge new → CanSpell core.config → is_wanted new.units new.size core.config ≡ true
    → Taken (empty_config site disks) (empty_config site disks) core.config old new → AllOn core.config → core.good ≡ good_set core.config.disks → Trusts core.committed core.agreed (good_set core.config.disks) new → (core.committed ≡ true) ⊎ HasFailed core.config.disks → core.unsettled ≡ false → IsNewGroup site first core new
new_Stands site disks core first old new less good_first large can wanted taken on good trusts trust settled = record {
  stands = made core new wanted can (let none = ap length taken.grown.volumes in omega (arith, none)) (λ v. let none = ap (λ vs. blocks_of vs v) taken.grown.volumes in omega (arith, none)) large on
      (subst (λ (g : ℕ). NoneGood core.config.disks (length core.config.disks) g → ⊥) (sym good) (some_good core.config.disks (good_set core.config.disks) taken.some))
      (subst (λ (g : ℕ). Kept core.config (Member g new) new) (sym good) taken.kept) (λ is. taken.tidy) (subst (λ (g : ℕ). Trusts core.committed core.agreed g new) (sym good) trusts);
  site_is = taken.grown.site;
  volumes = taken.grown.volumes;
  rvg = taken.grown.rvg;
  newest = record { finds = taken.finds };
  trust = trust;
  failed = λ u is. Rose_before (first.faults u) (old.faults u) (new.faults u) (less u) (taken.grown.disks.blamed u (good_first u) is);
  few =
      let used : core.config.serial ≤ 0 + 1 + length disks = few_serial (empty_config site disks) (empty_config site disks) core.config refl refl taken.few in
      let count : length core.config.disks ≡ length disks = taken.grown.disks.count in
      omega (arith, used, count);
  settled = settled;
}
