-- Headers of the good disks that are written back, one disk after the other.
use Rattle.std.proofs.Common.{◌≡◌, ◌⊎◌, inl, inr, ⊎_elim, ℕ, ◌+◌, ◌<◌, ◌≤◌, Bool, true, false, IsTrue, Option, IfSome, List, length, length-set, Err, refl, ap, sym, ◌∙◌, subst, arith}
use Rattle.std.proofs.lemmas.Bool.{cases_lt}
use Rattle.vx_disk.specs.Causes.{Cause, Faulted, StaysUp}
use Rattle.vx_disk.specs.declared.shelf.ShelfError.{ShelfError}
use Rattle.vx_disk.specs.declared.shelf.ShelfError.TheVariants.{Fault}
use Rattle.vx_disk.specs.Counts.{Rose}
use Rattle.vx_disk.specs.Shelf.{Goes, Lawful, Meaning, Nothing, Or}
use Rattle.vx_disk.proofs.Causing.{Rose_after, Rose_before}
use Rattle.vx_model.specs.declared.units.Units.{Units}
use Rattle.vx_copyfmt.specs.Commits.{Tidy}
use Rattle.vx_copyio.specs.Settling.{HeadersAsLeft, OneLeft}
use Rattle.vx_config.specs.Checks.{blocks_of}
use Rattle.vx_config.specs.Configs.{CanSpell, UnitsFit}
use Rattle.vx_config.specs.declared.config.Config.{Config}
use Rattle.vx_config.specs.declared.entry.DiskEntry.{DiskEntry}
use Rattle.vx_config.specs.declared.entry.VolumeEntry.{VolumeEntry}
use Rattle.vx_copies.specs.Bodies.{is_wanted}
use Rattle.vx_copies.specs.Commits.{HeldGood, NamesFailed}
use Rattle.vx_copies.specs.Looking.{on_shelf}
use Rattle.vx_copies.specs.Marks.{NoneGood, failed_at, marked}
use Rattle.vx_copies.proofs.Marked.{failed_now}
use Rattle.vx_copies.proofs.MarkedDisks.{mark_grown, mark_other}
use Rattle.vx_copies.proofs.OneTry.{wanted_same}
use Rattle.vx_kept.specs.Commits.{Member}
use Rattle.vx_kept.specs.Finds.{FindsFrom, NoConfiguration}
use Rattle.vx_kept.specs.Keeping.{Acts, IsTidy, Kept, Kin, Sees}
use Rattle.vx_kept.proofs.Chosen.{active_volumes, alike_shape, extends_volumes}
use Rattle.vx_kept.proofs.Committed.{fewer, member_same, take_on}
use Rattle.vx_kept.proofs.Lasting.{cases_bool}
use Rattle.vx_kept.proofs.Settles.{no_more, settled_Acts, settled_Kept, settled_tidy, still_tidy}
use Rattle.vx_kept.proofs.StateLemmas.{same_shape}
use Rattle.vx_kept.proofs.Steps.{both_Acts, same_Acts, wide_Acts}
use Rattle.vx_kept.proofs.Whole.{sees_back}
use Rattle.vx_kept.specs.Trusts.{Trusts}
use Rattle.vx_kept.proofs.Trusting.{less_finds, less_trusts}
use Rattle.vx_group.specs.Moves.{Narrows}
use Rattle.vx_group.specs.Quiesces.{AnyFailed}
use Rattle.vx_group.specs.Settled.{SameBut, SettledTo}
use Rattle.vx_group.specs.Stands.{InnerStands}
use Rattle.vx_group.specs.declared.inner.Inner.{Inner}
use Rattle.vx_group.proofs.FailingLemmas.{no_failing, then_failing}
use Rattle.vx_group.proofs.Standing.{can_of, made, still_large}

pub same_but : (c : Config) → SameBut c c
same_but c = record { serial = refl; site = refl; volumes = refl; rvg = refl; count = refl }

pub settle_start : (good : ℕ) (c : Config) (m : Meaning) → Kept c (Member good m) m → is_wanted m.units m.size c ≡ true → (IsTrue m.down → ⊥) → SettledTo good c c 0 0 false m m
settle_start good c m kept wanted up = record {
  kept = kept;
  acts = same_Acts (Sees c (Member good m) m) m;
  same = same_but c;
  wanted = wanted;
  tidy = λ u lt held. absurd (omega (arith, lt));
  up = up;
  rose = λ is. absurd (let clash : false ≡ true = is in cc);
  none = λ is. refl;
  failing = no_failing m m c.disks c.disks refl;
  less = λ u b v left. left;
}

module _ (good : ℕ) (c d : Config) (n device : ℕ) (failed : Bool) (m m1 : Meaning) (so_far : SettledTo good c d n device failed m m1) where
  -- a disk that is held as failed is passed over
  pub settle_pass : failed_at d.disks n ≡ true → SettledTo good c d (n + 1) device failed m m1
  settle_pass bad = record {
    kept = so_far.kept;
    acts = so_far.acts;
    same = so_far.same;
    wanted = so_far.wanted;
    tidy = λ u lt held. elim (cases_lt u n) [
      | inl less ↦ so_far.tidy u less held
      | inr le ↦ absurd (
          let at : u ≡ n = omega (arith, lt, le) in
          let good_n : failed_at d.disks n ≡ false = subst (λ (k : ℕ). failed_at d.disks k ≡ false) at held.good in
          let clash : false ≡ true = sym good_n ∙ bad in
          cc)
    ];
    up = so_far.up;
    rose = so_far.rose;
    none = so_far.none;
    failing = so_far.failing;
    less = so_far.less;
  }

  module _ (m2 : Meaning) (goes : Goes (HeadersAsLeft n m1) m1 m2) (before : Lawful m1) (after : Lawful m2) where
    pub settle_acts : Acts Nothing (Sees c (Member good m) m) m m2
    settle_acts = wide_Acts (Or Nothing Nothing) Nothing (Sees c (Member good m) m) m m2
        (both_Acts Nothing Nothing (Sees c (Member good m) m) (Sees c (Member good m1) m1) m m1 m2 so_far.acts (settled_Acts c (Member good m1) n m1 m2 goes before after so_far.kept)
        (λ i sees. sees_back good c m m1 so_far.acts.units so_far.acts.size i sees))
        (λ u b x. ⊎_elim (λ none. none) (λ none. none))

    pub settle_kept : Kept c (Member good m2) m2
    settle_kept = fewer c (Member good m1) (Member good m2) m2 (member_same good m1 m2 goes.units) (settled_Kept c (Member good m1) n m1 m2 goes before after so_far.kept)

    pub settle_less : (u b : ℕ) (v : List ℕ) → m2.leaves u b v → m.leaves u b v
    settle_less u b v left = so_far.less u b v (no_more c (Member good m1) n m1 m2 goes before after so_far.kept u b v left)

    held_before : (e : Config) (u : ℕ) → HeldGood e m2 u → HeldGood e m1 u
    held_before e u held = record { below = let b : u < m2.units = held.below in omega (arith, goes.units, b); good = held.good }

    later : failed ≡ true → Rose (m.disk_faults device) (m2.disk_faults device)
    later is = Rose_after (m.disk_faults device) (m1.disk_faults device) (m2.disk_faults device) (so_far.rose is) (goes.disk_faults device)

    pub settle_one : OneLeft n m2 → (IsTrue m2.down → ⊥) → SettledTo good c d (n + 1) device failed m m2
    settle_one one up = record {
      kept = settle_kept;
      acts = settle_acts;
      same = so_far.same;
      wanted = so_far.wanted;
      tidy = λ u lt held. elim (cases_lt u n) [
        | inl less ↦ still_tidy c (Member good m1) n m1 m2 goes before after so_far.kept u (so_far.tidy u less (held_before d u held))
        | inr le ↦
            let at : u ≡ n = omega (arith, lt, le) in
            subst (λ (k : ℕ). Tidy (on_shelf m2) (c.serial + 1) (m2.leaves k)) (sym at)
            (settled_tidy c (Member good m1) n m1 m2 goes before after so_far.kept one (subst (λ (k : ℕ). k < m2.units) at held.below))
      ];
      up = up;
      rose = later;
      none = so_far.none;
      failing = then_failing m m1 m2 so_far.acts.faults goes.faults c.disks d.disks d.disks so_far.failing (no_failing m1 m2 d.disks d.disks refl);
      less = settle_less;
    }

    -- a disk that failed is held as failed from then on
    pub settle_mark : (e : Config) (unit : ℕ) (now : Bool) → n < length d.disks → e ≡ marked d n → is_wanted m.units m.size e ≡ true → Faulted m1 m2 n unit → (IsTrue m2.down → ⊥) → now ≡ true
        → SettledTo good c e (n + 1) unit now m m2
    settle_mark e unit now lt is wanted fault up set = record {
      kept = settle_kept;
      acts = settle_acts;
      same = record {
        serial = ap (λ (x : Config). x.serial) is ∙ so_far.same.serial;
        site = ap (λ (x : Config). x.site) is ∙ so_far.same.site;
        volumes = ap (λ (x : Config). x.volumes) is ∙ so_far.same.volumes;
        rvg = ap (λ (x : Config). x.rvg) is ∙ so_far.same.rvg;
        count = ap (λ (x : Config). length x.disks) is ∙ length-set d.disks n (failed_now d.disks n) ∙ so_far.same.count;
      };
      wanted = wanted;
      tidy = λ u below held. elim (cases_lt u n) [
        | inl less ↦ still_tidy c (Member good m1) n m1 m2 goes before after so_far.kept u (so_far.tidy u less (record { below = (held_before e u held).below; good = was_good u held.good }))
        | inr le ↦ absurd (mark_other d d.serial n u e lt is held.good (omega (arith, below, le)))
      ];
      up = up;
      rose = λ on. Rose_before (m.disk_faults unit) (m1.disk_faults unit) (m2.disk_faults unit) (so_far.acts.disk_faults unit) fault.disk_count;
      none = λ off. absurd (let clash : true ≡ false = sym set ∙ off in cc);
      failing = then_failing m m1 m2 so_far.acts.faults goes.faults c.disks d.disks e.disks so_far.failing (mark_grown d d.serial n e m1 m2 fault.count is).disks;
      less = settle_less;
    }
      where
        was_good : (u : ℕ) → failed_at e.disks u ≡ false → failed_at d.disks u ≡ false
        was_good u good_e = by (failed_at d.disks u) refl
          where
            by : (b : Bool) → failed_at d.disks u ≡ b → failed_at d.disks u ≡ false
            by false at = at
            by true at = absurd (
                let still = (mark_grown d d.serial n e m1 m2 fault.count is).disks.stays u at in
                let clash : false ≡ true = sym good_e ∙ still in
                cc)

-- each disk was settled, or is held as failed
pub settle_end : (good : ℕ) (c d : Config) (n device : ℕ) (failed : Bool) (m m1 : Meaning) → m1.units ≤ n → SettledTo good c d n device failed m m1 → IsTidy d m1
settle_end good c d n device failed m m1 le so_far = record {
  each = λ u held. subst (λ (s : ℕ). Tidy (on_shelf m1) (s + 1) (m1.leaves u)) (sym so_far.same.serial) (so_far.tidy u (let lt : u < m1.units = held.below in omega (arith, lt, le)) held);
}

-- ---- a configuration with the same volumes

pub kin_volumes : (c d x : Config) → d.volumes ≡ c.volumes → Kin c x → Kin d x
kin_volumes c d x volumes kin = record {
  shape = extends_volumes x c d volumes kin.shape;
  on = λ v p lt is. active_volumes d c volumes v p ∙ kin.on v p (omega (arith, ap length volumes, lt)) is;
  some = λ v lt. kin.some v (omega (arith, ap length volumes, lt));
}

pub kept_volumes : (c d : Config) (G : ℕ → Type 0) (m : Meaning) → d.volumes ≡ c.volumes → d.serial ≡ c.serial → Kept c G m → Kept d G m
kept_volumes c d G m volumes serial kept = record {
  below = record { each = λ u lt a v h is left head. let was = kept.below.each u lt a v h is left head in omega (arith, was, serial) };
  counts = kept.counts;
  labels = kept.labels;
  sees = λ i each. let sees = kept.sees i each in record {
    config = sees.config;
    found = sees.found;
    kin = kin_volumes c d sees.config volumes sees.kin;
    others = λ R g x held in_it is. kin_volumes c d x volumes (sees.others R g x held in_it is);
  };
}

-- ---- the group with it

module _ (core : Inner) (d : Config) (n device : ℕ) (failed : Bool) (m m1 : Meaning) (stands : InnerStands core m) (so_far : SettledTo core.good core.config d n device failed m m1) where
  abbrev with_disks : Inner
  with_disks = record { config = d; good = core.good; room = core.room; unsettled = false; committed = core.committed; agreed = core.agreed; next = core.next; faults = core.faults; unsure = core.unsure }

  can_same : CanSpell d
  can_same = record {
    serial = let le = stands.serial in omega (arith, so_far.same.serial, le);
    disks = let some = stands.disks in omega (arith, so_far.same.count, some);
    rvg = subst (λ (o : Option Units). IfSome o UnitsFit) (sym so_far.same.rvg) (can_of core m stands).rvg;
  }

  pub disks_Stands : (NoneGood d.disks (length d.disks) core.good → ⊥) → IsTidy d m1 → Trusts core.committed core.agreed core.good m1 → InnerStands with_disks m1
  disks_Stands some tidy trusts = made with_disks m1 (wanted_same m m1 d so_far.acts.units so_far.acts.size so_far.wanted) can_same
      (let few = stands.few in omega (arith, ap length so_far.same.volumes, few))
      (λ v. let small = stands.small v in omega (arith, ap (λ (vs : List VolumeEntry). blocks_of vs v) so_far.same.volumes, small))
      (still_large m m1 so_far.acts.units so_far.acts.size stands.large) (take_on core.config d so_far.same.volumes stands.on) some
      (kept_volumes core.config d (Member core.good m1) m1 so_far.same.volumes so_far.same.serial so_far.kept) (λ is. tidy) trusts

  pub disks_Narrows : Narrows core with_disks m m1
  disks_Narrows = record {
    acts = so_far.acts;
    shape = alike_shape d core.config core.config so_far.same.volumes (same_shape core.config);
    on = λ v p is. sym (active_volumes d core.config so_far.same.volumes v p) ∙ is;
    faults = refl;
    unsure = refl;
  }

-- the disks were put back
pub put_back : (c d : Config) (disks : List DiskEntry) → SameBut c d → disks ≡ c.disks → record { serial = d.serial; site = d.site; disks = disks; volumes = d.volumes; rvg = d.rvg } ≡ c
put_back c d disks same is =
    ap (λ (s : ℕ). record { serial = s; site = d.site; disks = disks; volumes = d.volumes; rvg = d.rvg }) same.serial
    ∙ ap (λ (s : ℕ). record { serial = c.serial; site = s; disks = disks; volumes = d.volumes; rvg = d.rvg }) same.site
    ∙ ap (λ (ds : List DiskEntry). record { serial = c.serial; site = c.site; disks = ds; volumes = d.volumes; rvg = d.rvg }) is
    ∙ ap (λ (vs : List VolumeEntry). record { serial = c.serial; site = c.site; disks = c.disks; volumes = vs; rvg = d.rvg }) same.volumes
    ∙ ap (λ (o : Option Units). record { serial = c.serial; site = c.site; disks = c.disks; volumes = c.volumes; rvg = o }) same.rvg

-- and the core with them
pub core_back : (core l : Inner) (disks : List DiskEntry)
    → l ≡ record { config = l.config; good = core.good; room = core.room; unsettled = core.unsettled; committed = core.committed; agreed = core.agreed; next = core.next; faults = core.faults; unsure = core.unsure } → SameBut core.config l.config → disks ≡ core.config.disks
    → record { config = record { serial = l.config.serial; site = l.config.site; disks = disks; volumes = l.config.volumes; rvg = l.config.rvg }; good = l.good; room = l.room; unsettled = l.unsettled; committed = l.committed; agreed = l.agreed; next = l.next; faults = l.faults; unsure = l.unsure } ≡ core
core_back core l disks is same back =
    ap (λ (x : Inner). record { config = record { serial = l.config.serial; site = l.config.site; disks = disks; volumes = l.config.volumes; rvg = l.config.rvg }; good = x.good; room = x.room; unsettled = x.unsettled; committed = x.committed; agreed = x.agreed; next = x.next; faults = x.faults; unsure = x.unsure }) is
    ∙ ap (λ (x : Config). record { config = x; good = core.good; room = core.room; unsettled = core.unsettled; committed = core.committed; agreed = core.agreed; next = core.next; faults = core.faults; unsure = core.unsure }) (put_back core.config l.config disks same back)

-- and the core that is settled
pub core_settled : (core l : Inner) → l ≡ record { config = l.config; good = core.good; room = core.room; unsettled = core.unsettled; committed = core.committed; agreed = core.agreed; next = core.next; faults = core.faults; unsure = core.unsure }
    → ◌≡◌ {A = Inner} (record { config = l.config; good = l.good; room = l.room; unsettled = false; committed = l.committed; agreed = l.agreed; next = l.next; faults = l.faults; unsure = l.unsure })
    (record { config = l.config; good = core.good; room = core.room; unsettled = false; committed = core.committed; agreed = core.agreed; next = core.next; faults = core.faults; unsure = core.unsure })
core_settled core l is = ap (λ (x : Inner). record { config = l.config; good = x.good; room = x.room; unsettled = false; committed = x.committed; agreed = x.agreed; next = x.next; faults = x.faults; unsure = x.unsure }) is

pub fault_cause : (old new : Meaning) (n unit : ℕ) (error : ShelfError) → error ≡ Fault unit → Cause {T = Unit {0}} old new n (Err error) → Faulted old new n unit × StaysUp old new
fault_cause old new n unit error is cause = subst (λ (e : ShelfError). Cause {T = Unit {0}} old new n (Err e)) is cause

-- where none of the set is left, one failed
pub one_failed : (core l : Inner) (n device : ℕ) (failed : Bool) (m m1 : Meaning) → InnerStands core m → SettledTo core.good core.config l.config n device failed m m1
    → l ≡ record { config = l.config; good = core.good; room = core.room; unsettled = core.unsettled; committed = core.committed; agreed = core.agreed; next = core.next; faults = core.faults; unsure = core.unsure } → NoneGood l.config.disks (length l.config.disks) l.good
    → Rose (m.disk_faults device) (m1.disk_faults device)
one_failed core l n device failed m m1 stands so_far is none = by failed refl
  where
    by : (b : Bool) → failed ≡ b → Rose (m.disk_faults device) (m1.disk_faults device)
    by true at = so_far.rose at
    by false at = absurd (stands.some (subst (λ (x : Config). NoneGood x.disks (length x.disks) core.good) (so_far.none at)
        (subst (λ (k : ℕ). NoneGood l.config.disks (length l.config.disks) k) (ap (λ (x : Inner). x.good) is) none)))

-- where none failed nothing has changed
pub settled_still : (good : ℕ) (c d : Config) (n device : ℕ) (failed : Bool) (m m1 : Meaning) → SettledTo good c d n device failed m m1 → (d ≡ c) ⊎ AnyFailed m m1
settled_still good c d n device failed m m1 so_far = elim (cases_bool failed) [
  | inl is ↦ inr (device, so_far.rose is)
  | inr not ↦ inl (so_far.none not)
]

pub settled_named : (good : ℕ) (c d : Config) (n device : ℕ) (failed : Bool) (m m1 : Meaning) → SettledTo good c d n device failed m m1 → NamesFailed c d m m1 device
settled_named good c d n device failed m m1 so_far = elim (cases_bool failed) [
  | inl is ↦ inr (so_far.rose is)
  | inr not ↦ inl (ap (λ (x : Config). x.disks) (so_far.none not))
]

-- what imports find behind it
pub settle_trusts : (committed agreed : Bool) (good : ℕ) (c d : Config) (n device : ℕ) (failed : Bool) (m m1 : Meaning) → Lawful m → Lawful m1 → SettledTo good c d n device failed m m1 → Trusts committed agreed good m → Trusts committed agreed good m1
settle_trusts committed agreed good c d n device failed m m1 before after so_far trusts = less_trusts committed agreed good m m1 before after so_far.acts.units so_far.acts.size so_far.acts.tells (λ u b v lt left. so_far.less u b v left) trusts

-- no image has another configuration behind it
pub settle_finds : (good : ℕ) (c d : Config) (n device : ℕ) (failed : Bool) (m m1 : Meaning) → Lawful m → Lawful m1 → SettledTo good c d n device failed m m1 → FindsFrom NoConfiguration m m1
settle_finds good c d n device failed m m1 before after so_far = less_finds m m1 before after so_far.acts.units so_far.acts.size so_far.acts.tells (λ u b v lt left. so_far.less u b v left)
