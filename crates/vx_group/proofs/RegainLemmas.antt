-- Disks that are held as good again.
use Rattle.std.proofs.Common.{◌≡◌, inl, inr, ℕ, zero, suc, ◌+◌, ◌<◌, ◌≤◌, Bool, true, false, Option, IfSome, List, [], ◌∷◌, length, length-set, Result, Ok, Err, OnOk, refl, ap, sym, ◌∙◌, subst, arith}
use Rattle.std.specs.Prelude.{◌&&◌, slice_set}
use Rattle.std.proofs.lemmas.Bool.{cases_lt}
use Rattle.vx_disk.specs.Counts.{Rose}
use Rattle.vx_disk.specs.Shelf.{Meaning}
use Rattle.vx_disk.proofs.Causing.{Rose_after, Rose_before}
use Rattle.vx_model.specs.declared.units.Units.{Units}
use Rattle.vx_config.specs.Checks.{blocks_of}
use Rattle.vx_config.specs.Configs.{UnitsFit}
use Rattle.vx_config.specs.declared.config.Config.{Config}
use Rattle.vx_config.specs.declared.entry.DiskEntry.{DiskEntry}
use Rattle.vx_config.specs.declared.entry.VolumeEntry.{VolumeEntry}
use Rattle.vx_copies.specs.Commits.{MoreFailed, NamesFailed}
use Rattle.vx_copies.specs.Marks.{NoneGood, blocks_at, failed_at}
use Rattle.vx_copies.proofs.OneTry.{held_or}
use Rattle.vx_volume.specs.Plexes.{uses}
use Rattle.vx_kept.specs.Commits.{Member}
use Rattle.vx_kept.specs.Keeping.{Sees}
use Rattle.vx_kept.proofs.Chosen.{active_volumes, alike_shape}
use Rattle.vx_kept.proofs.Committed.{take_on}
use Rattle.vx_kept.proofs.StateLemmas.{same_shape}
use Rattle.vx_kept.proofs.Steps.{same_Acts}
use Rattle.vx_kept.proofs.Trusting.{unsaid_trusts}
use Rattle.vx_group.specs.Moves.{Narrows}
use Rattle.vx_group.specs.Regains.{AreHeld, HeldOne, HoldsNow, LiesOnFailed, Regained, Regains, regained}
use Rattle.vx_group.specs.Stands.{InnerStands}
use Rattle.vx_group.specs.declared.inner.Inner.{Inner}
use Rattle.vx_group.proofs.FailingLemmas.{wanted_flags}
use Rattle.vx_group.proofs.ReadyLemmas.{kept_volumes, same_but}
use Rattle.vx_group.proofs.Standing.{can_of, kept_of, made}
use Rattle.vx_group.proofs.UsesLemmas.{uses_volumes}

-- ---- one disk

good_now : List DiskEntry → ℕ → DiskEntry
good_now ds k = record { blocks = blocks_at ds k; failed = false }

blocks_set : (ds : List DiskEntry) (k u : ℕ) → blocks_at (slice_set ds k (record { blocks = blocks_at ds k; failed = false })) u ≡ blocks_at ds u
blocks_set [] k u = refl
blocks_set (x ∷ ds) zero zero = refl
blocks_set (x ∷ ds) zero (suc u) = refl
blocks_set (x ∷ ds) (suc k) zero = refl
blocks_set (x ∷ ds) (suc k) (suc u) = blocks_set ds k u

good_here : (ds : List DiskEntry) (k : ℕ) (d : DiskEntry) → d.failed ≡ false → failed_at (slice_set ds k d) k ≡ false
good_here [] k d is = refl
good_here (x ∷ ds) zero d is = is
good_here (x ∷ ds) (suc k) d is = good_here ds k d is

good_stays : (ds : List DiskEntry) (k u : ℕ) (d : DiskEntry) → d.failed ≡ false → failed_at ds u ≡ false → failed_at (slice_set ds k d) u ≡ false
good_stays [] k u d is was = was
good_stays (x ∷ ds) zero zero d is was = is
good_stays (x ∷ ds) zero (suc u) d is was = was
good_stays (x ∷ ds) (suc k) zero d is was = was
good_stays (x ∷ ds) (suc k) (suc u) d is was = good_stays ds k u d is was

failed_other : (ds : List DiskEntry) (k u : ℕ) (d : DiskEntry) → (u ≡ k → ⊥) → failed_at ds u ≡ true → failed_at (slice_set ds k d) u ≡ true
failed_other [] k u d apart was = was
failed_other (x ∷ ds) zero zero d apart was = absurd (apart refl)
failed_other (x ∷ ds) zero (suc u) d apart was = was
failed_other (x ∷ ds) (suc k) zero d apart was = was
failed_other (x ∷ ds) (suc k) (suc u) d apart was = failed_other ds k u d (λ same. apart (ap suc same)) was

-- ---- one after the other

pub regained_start : (c : Config) (v p : ℕ) → Regained c c v p 0 false
regained_start c v p = record {
  same = same_but c;
  blocks = λ u. refl;
  held = λ u lt is. absurd (omega (arith, lt));
  stays = λ u was. was;
  others = λ u was off. was;
  none = λ is. refl;
}

module _ (c d e : Config) (v p n : ℕ) (any : Bool) (so_far : Regained c d v p n any) where
  uses_is : (u : ℕ) → uses d v p u ≡ uses c v p u
  uses_is u = uses_volumes c d so_far.same.volumes v p u

  step_true : (e ≡ regained d n) → uses d v p n ≡ true → Regained c e v p (n + 1) true
  step_true is its = subst (λ (x : Config). Regained c x v p (n + 1) true) (sym is) (record {
    same = record {
      serial = so_far.same.serial;
      site = so_far.same.site;
      volumes = so_far.same.volumes;
      rvg = so_far.same.rvg;
      count = length-set d.disks n (record { blocks = blocks_at d.disks n; failed = false }) ∙ so_far.same.count;
    };
    blocks = λ u. blocks_set d.disks n u ∙ so_far.blocks u;
    held = λ u lt on. elim (cases_lt u n) [
      | inl below ↦ good_stays d.disks n u (record { blocks = blocks_at d.disks n; failed = false }) refl (so_far.held u below on)
      | inr above ↦
          let same : n ≡ u = omega (arith, lt, above) in
          subst (λ (k : ℕ). failed_at (slice_set d.disks n (record { blocks = blocks_at d.disks n; failed = false })) k ≡ false) same (good_here d.disks n (record { blocks = blocks_at d.disks n; failed = false }) refl)
    ];
    stays = λ u was. good_stays d.disks n u (record { blocks = blocks_at d.disks n; failed = false }) refl (so_far.stays u was);
    others = λ u was off. failed_other d.disks n u (record { blocks = blocks_at d.disks n; failed = false })
        (λ same. let clash : false ≡ true = sym off ∙ sym (uses_is u) ∙ subst (λ (k : ℕ). uses d v p k ≡ true) (sym same) its in cc) (so_far.others u was off);
    none = λ off. absurd (let clash : true ≡ false = off in cc);
  })

  step_false : (e ≡ d) → (uses d v p n ≡ true → failed_at d.disks n ≡ false) → Regained c e v p (n + 1) any
  step_false is its = subst (λ (x : Config). Regained c x v p (n + 1) any) (sym is) (record {
    same = so_far.same;
    blocks = so_far.blocks;
    held = λ u lt on. elim (cases_lt u n) [
      | inl below ↦ so_far.held u below on
      | inr above ↦
          let same : n ≡ u = omega (arith, lt, above) in
          subst (λ (k : ℕ). failed_at d.disks k ≡ false) same (its (uses_is n ∙ subst (λ (k : ℕ). uses c v p k ≡ true) (sym same) on))
    ];
    stays = so_far.stays;
    others = so_far.others;
    none = so_far.none;
  })

  pub regained_step : (result : Bool) → HeldOne d e v p n any result → Regained c e v p (n + 1) result
  regained_step result (inl is) = subst (λ (b : Bool). Regained c e v p (n + 1) b) (sym is.2) (step_true is.0 is.1)
  regained_step result (inr is) = subst (λ (b : Bool). Regained c e v p (n + 1) b) (sym is.2) (step_false is.0 is.1)

pub regained_to : (c d : Config) (v p n k : ℕ) (any : Bool) → k ≤ n → Regained c d v p n any → Regained c d v p k any
regained_to c d v p n k any le is = record {
  same = is.same;
  blocks = is.blocks;
  held = λ u lt on. is.held u (omega (arith, lt, le)) on;
  stays = is.stays;
  others = is.others;
  none = is.none;
}

-- ---- the group with it

-- a core of which flags of disks alone changed
pub same_narrows : (c d : Inner) (m : Meaning) → d.config.volumes ≡ c.config.volumes → d.faults ≡ c.faults → d.unsure ≡ c.unsure → Narrows c d m m
same_narrows c d m volumes faults unsure = record {
  acts = same_Acts (Sees c.config (Member c.good m) m) m;
  shape = alike_shape d.config c.config c.config volumes (same_shape c.config);
  on = λ v p is. sym (active_volumes d.config c.config volumes v p) ∙ is;
  faults = faults;
  unsure = unsure;
}

module _ (core : Inner) (d : Config) (v p n : ℕ) (any : Bool) (m : Meaning) (stands : InnerStands core m) (is : Regained core.config d v p n any) where
  abbrev held_core : Inner
  held_core = record { config = d; good = core.good; room = core.room; unsettled = true; committed = core.committed; agreed = core.agreed; next = core.next; faults = core.faults; unsure = core.unsure }

  pub regained_Stands : InnerStands held_core m
  regained_Stands = made held_core m (wanted_flags m.units m.size core.config d is.same.count is.blocks is.same.volumes is.same.rvg stands.wanted)
      (record {
        serial = let le = stands.serial in omega (arith, is.same.serial, le);
        disks = let some = stands.disks in omega (arith, is.same.count, some);
        rvg = subst (λ (o : Option Units). IfSome o UnitsFit) (sym is.same.rvg) (can_of core m stands).rvg;
      })
      (let few = stands.few in omega (arith, ap length is.same.volumes, few))
      (λ x. let small = stands.small x in omega (arith, ap (λ (vs : List VolumeEntry). blocks_of vs x) is.same.volumes, small))
      stands.large (take_on core.config d is.same.volumes stands.on)
      (λ none. stands.some (record { each = λ u lt bit. was_failed u (none.each u (let count = is.same.count in omega (arith, count, lt)) bit) }))
      (kept_volumes core.config d (Member core.good m) m is.same.volumes is.same.serial (kept_of core m stands)) (λ off. absurd (let clash : true ≡ false = off in cc)) stands.trusts
    where
      was_failed : (u : ℕ) → failed_at d.disks u ≡ true → failed_at core.config.disks u ≡ true
      was_failed u now = elim (held_or core.config.disks u) [
        | inl good ↦ absurd (let clash : false ≡ true = sym (is.stays u good) ∙ now in cc)
        | inr failed ↦ failed
      ]

  pub regained_Narrows : Narrows core held_core m m
  regained_Narrows = same_narrows core held_core m is.same.volumes refl refl

pub regained_regains : (c d : Config) (v p n : ℕ) (any : Bool) (m : Meaning) → Regained c d v p n any → Regains c d v p m m
regained_regains c d v p n any m is = record {
  blamed = λ u was now. absurd (let clash : false ≡ true = sym (is.stays u was) ∙ now in cc);
  others = is.others;
}

failed_past : (ds : List DiskEntry) (u : ℕ) → length ds ≤ u → failed_at ds u ≡ false
failed_past [] u le = refl
failed_past (d ∷ ds) zero le = absurd (omega (arith, le))
failed_past (d ∷ ds) (suc u) le = failed_past ds u (omega (arith, le))

pub regained_held : (c d : Config) (v p : ℕ) (any : Bool) → Regained c d v p (length c.disks) any → AreHeld d v p
regained_held c d v p any is = record {
  each = λ u on. elim (cases_lt u (length c.disks)) [
    | inl lt ↦ is.held u lt (sym (uses_volumes c d is.same.volumes v p u) ∙ on)
    | inr le ↦ failed_past d.disks u (let count = is.same.count in omega (arith, count, le))
  ];
}

-- where none of them was held as failed
pub none_holds : (c d : Config) (v p : ℕ) (any : Bool) (m : Meaning) → Regained c d v p (length c.disks) any → any ≡ false → HoldsNow c d v p m
none_holds c d v p any m is off = record {
  held = regained_held c d v p any is;
  committed = λ on. absurd (
      let held : failed_at d.disks on.disk ≡ false = (regained_held c d v p any is).each on.disk (uses_volumes c d is.same.volumes v p on.disk ∙ on.lies) in
      let same : failed_at d.disks on.disk ≡ failed_at c.disks on.disk = ap (λ (x : Config). failed_at x.disks on.disk) (is.none off) in
      let clash : false ≡ true = sym held ∙ same ∙ on.failed in cc
      );
}

-- where nothing changed
pub same_regains : (c d : Config) (v p : ℕ) (m m' : Meaning) → d.disks ≡ c.disks → Regains c d v p m m'
same_regains c d v p m m' is = record {
  blamed = λ u was now. absurd (let clash : false ≡ true = sym was ∙ sym (ap (λ (ds : List DiskEntry). failed_at ds u) is) ∙ now in cc);
  others = λ u was off. ap (λ (ds : List DiskEntry). failed_at ds u) is ∙ was;
}

-- ---- calls behind it

module _ (m0 m1 m2 : Meaning) (one : (u : ℕ) → m0.faults u ≤ m1.faults u) (two : (u : ℕ) → m1.faults u ≤ m2.faults u) (c d e : Config) (v p : ℕ) (more : MoreFailed m1 m2 d.disks e.disks) where
  pub then_regains : Regains c d v p m0 m1 → Regains c e v p m0 m2
  then_regains first = record {
    blamed = λ u was is. elim (held_or d.disks u) [
      | inl good ↦ Rose_before (m0.faults u) (m1.faults u) (m2.faults u) (one u) (more.blamed u good is)
      | inr failed ↦ Rose_after (m0.faults u) (m1.faults u) (m2.faults u) (first.blamed u was failed) (two u)
    ];
    others = λ u was off. more.stays u (first.others u was off);
  }

pub all_holds : {T E Q : Type 0} (r : Result T E) → Q → OnOk r Q
all_holds (Ok x) is = is
all_holds (Err error) is = tt

-- ---- the flags are put back

module _ (core e : Inner) (ds : List DiskEntry) (m m' : Meaning) (stands : InnerStands core m) (stands' : InnerStands e m') (is : ds ≡ core.config.disks) (count : length e.config.disks ≡ length core.config.disks)
    (blocks : (u : ℕ) → blocks_at e.config.disks u ≡ blocks_at core.config.disks u) (good : e.good ≡ core.good) (un : e.unsettled ≡ true) where
  abbrev config_back : Config
  config_back = record { serial = e.config.serial; site = e.config.site; disks = ds; volumes = e.config.volumes; rvg = e.config.rvg }

  abbrev back : Inner
  back = record { config = config_back; good = e.good; room = e.room; unsettled = e.unsettled; committed = false; agreed = e.agreed; next = e.next; faults = e.faults; unsure = e.unsure }

  pub flags_back : InnerStands back m'
  flags_back = made back m'
      (wanted_flags m'.units m'.size e.config config_back (ap length is ∙ sym count) (λ u. ap (λ (xs : List DiskEntry). blocks_at xs u) is ∙ sym (blocks u)) refl refl stands'.wanted)
      (record { serial = stands'.serial; disks = let some = stands.disks in omega (arith, ap length is, some); rvg = (can_of e m' stands').rvg })
      stands'.few stands'.small stands'.large (take_on e.config config_back refl stands'.on)
      (subst (λ (xs : List DiskEntry). NoneGood xs (length xs) e.good → ⊥) (sym is) (subst (λ (g : ℕ). NoneGood core.config.disks (length core.config.disks) g → ⊥) (sym good) stands.some))
      (kept_volumes e.config config_back (Member e.good m') m' refl refl (kept_of e m' stands')) (λ off. absurd (let clash : true ≡ false = sym un ∙ off in cc)) (unsaid_trusts e.committed e.agreed e.good m' stands'.trusts)

  pub back_narrows : Narrows e back m' m'
  back_narrows = same_narrows e back m' refl refl refl

-- ---- a disk that failed in a call

-- where the plex came to lie on a disk that is held as failed, the device is that of a call
pub failed_named : (c d : Config) (v p device : ℕ) (old new : Meaning) → AreHeld c v p → d.volumes ≡ c.volumes → LiesOnFailed d v p → NamesFailed c d old new device → Rose (old.disk_faults device) (new.disk_faults device)
failed_named c d v p device old new held volumes on (inl same) = absurd (
    let was : failed_at c.disks on.disk ≡ false = held.each on.disk (sym (uses_volumes c d volumes v p on.disk) ∙ on.lies) in
    let clash : false ≡ true = sym was ∙ ap (λ (ds : List DiskEntry). failed_at ds on.disk) (sym same) ∙ on.failed in cc)
failed_named c d v p device old new held volumes on (inr rose) = rose

pub lies_failed : (c : Config) (v p disk : ℕ) → uses c v p disk && failed_at c.disks disk ≡ true → LiesOnFailed c v p
lies_failed c v p disk is = record { disk = disk; lies = (both_true (uses c v p disk) (failed_at c.disks disk) is).0; failed = (both_true (uses c v p disk) (failed_at c.disks disk) is).1 }
  where
    both_true : (a b : Bool) → a && b ≡ true → (a ≡ true) × (b ≡ true)
    both_true true b is = (refl, is)
    both_true false b is = absurd (let clash : false ≡ true = is in cc)

-- none of the first ones is such a disk
pub record HeldBelow (c : Config) (v p n : ℕ) : Type 0 where
  pub each : (u : ℕ) → u < n → uses c v p u ≡ true → failed_at c.disks u ≡ false

pub held_more : (c : Config) (v p n : ℕ) → HeldBelow c v p n → uses c v p n && failed_at c.disks n ≡ false → HeldBelow c v p (n + 1)
held_more c v p n so_far off = record {
  each = λ u lt on. elim (cases_lt u n) [
    | inl below ↦ so_far.each u below on
    | inr above ↦
        let same : u ≡ n = omega (arith, lt, above) in
        subst (λ (k : ℕ). failed_at c.disks k ≡ false) (sym same) (last (uses c v p n) (failed_at c.disks n) off (subst (λ (k : ℕ). uses c v p k ≡ true) same on))
  ];
}
  where
    last : (a b : Bool) → a && b ≡ false → a ≡ true → b ≡ false
    last true b is on = is
    last false b is on = absurd (let clash : false ≡ true = on in cc)

pub all_held : (c : Config) (v p n : ℕ) → HeldBelow c v p n → length c.disks ≤ n → AreHeld c v p
all_held c v p n so_far le = record {
  each = λ u on. elim (cases_lt u n) [
    | inl lt ↦ so_far.each u lt on
    | inr above ↦ failed_past c.disks u (omega (arith, le, above))
  ];
}
