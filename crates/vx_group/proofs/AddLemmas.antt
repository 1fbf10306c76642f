-- A volume that is added behind those that stand.
use Rattle.std.proofs.Common.{◌≡◌, inl, inr, ⊎_elim, ℕ, ◌+◌, ◌<◌, ◌≤◌, ◌^◌, true, false, IsTrue, List, length, Err, refl, ap, sym, ◌∙◌, subst, arith}
use Rattle.std.specs.Prelude.{◌&&◌, ◌==◌}
use Rattle.std.proofs.lemmas.Bool.{and_from, and_parts, cases_eq, cases_lt}
use Rattle.std.proofs.lemmas.Option.{slice_get_past}
use Rattle.vx_disk.specs.Moves.{Anything}
use Rattle.vx_disk.specs.Shelf.{Goes, Lawful, Meaning, Nothing, Or}
use Rattle.vx_copyfmt.specs.Commits.{Tidy}
use Rattle.vx_model.specs.declared.no.No.{No}
use Rattle.vx_config.specs.Checks.{blocks_of, blocks_or_none, is_sound}
use Rattle.vx_config.specs.Configs.{CanSpell}
use Rattle.vx_config.specs.Table.{greatest}
use Rattle.vx_config.specs.declared.config.Config.{Config}
use Rattle.vx_config.specs.declared.entry.DiskEntry.{DiskEntry}
use Rattle.vx_config.specs.declared.entry.VolumeEntry.{VolumeEntry}
use Rattle.vx_copies.specs.Answers.{good_set}
use Rattle.vx_copies.specs.Bodies.{fits_units, have_blocks, is_wanted}
use Rattle.vx_copies.specs.Commits.{CommitStops}
use Rattle.vx_copies.specs.Looking.{on_shelf}
use Rattle.vx_copies.specs.Marks.{NoneGood, failed_at}
use Rattle.vx_copies.proofs.OneTry.{wanted_same, wanted_serial}
use Rattle.vx_layout.specs.Made.{with_volume}
use Rattle.vx_layout.specs.Places.{place}
use Rattle.vx_volume.specs.Plexes.{DisksFit, Inside, SomeActive, active}
use Rattle.vx_kept.specs.Commits.{Member, MissedCommit, Taken}
use Rattle.vx_kept.specs.Groups.{group_meaning}
use Rattle.vx_kept.specs.Finds.{FindsFrom, NoConfiguration, IsTryOf}
use Rattle.vx_kept.specs.Keeping.{Acts, AllOn, MayBeNext, IsTidy, Kept, Sees}
use Rattle.vx_kept.proofs.Chosen.{active_volumes, alike_shape, place_volumes, same_extends}
use Rattle.vx_kept.proofs.Lasting.{low_Acts}
use Rattle.vx_kept.proofs.Narrower.{stand_apart}
use Rattle.vx_kept.proofs.PlexActing.{wider_Acts}
use Rattle.vx_kept.proofs.Staling.{all_serial, can_serial}
use Rattle.vx_kept.proofs.StateLemmas.{same_shape}
use Rattle.vx_kept.proofs.Steps.{both_Acts, group-Goes, wide_Acts}
use Rattle.vx_kept.proofs.Whole.{sees_back}
use Rattle.vx_kept.specs.Trusts.{Trusts}
use Rattle.vx_group.specs.Blames.{Blames, fault_of}
use Rattle.vx_group.specs.Makes.{AreZero, StayAsWere, ZerosOn}
use Rattle.vx_group.specs.Nexts.{Added, IsNextConfig}
use Rattle.vx_group.specs.Stands.{InnerStands, volume_faults, inner_meaning}
use Rattle.vx_group.specs.declared.inner.Inner.{Inner}
use Rattle.vx_group.proofs.DetachLemmas.{some_good, stop_sure}
use Rattle.vx_group.proofs.LongerLemmas.{active_more, blocks_last, blocks_more, last_some, longer_count, longer_follows, longer_on}
use Rattle.vx_group.proofs.Standing.{apart_of_core, can_of, fit_of, kept_of, low_Stands, low_finds, made, still_large, tidy_of}
use Rattle.vx_group.specs.Settles.{KeepsAlike}
use Rattle.vx_group.proofs.SettleFinds.{NoMoreLeft, alike_tried}
use Rattle.vx_group.proofs.SettleCalls.{alike_behind, less_acts}

module _ (core : Inner) (next : Config) (m : Meaning) (stands : InnerStands core m) (is_next : IsNextConfig core.config next) where
  abbrev n : ℕ
  n = length core.config.volumes

  pub next_count : length next.volumes ≡ n + 1
  next_count = ap (λ (x : Config). length x.volumes) is_next.is ∙ longer_count core.config is_next.volume

  next_disks : next.disks ≡ core.config.disks
  next_disks = ap (λ (x : Config). x.disks) is_next.is

  next_serial : next.serial ≡ core.config.serial
  next_serial = ap (λ (x : Config). x.serial) is_next.is

  pub next_on : AllOn next
  next_on = subst AllOn (sym is_next.is) (longer_on core.config is_next.volume stands.on is_next.on)

  sound_more : is_sound (with_volume core.config is_next.volume) ≡ true
  sound_more = subst (λ (x : Config). is_sound x ≡ true) is_next.is is_next.sound

  pub next_follows : MayBeNext core.config next
  next_follows = subst (MayBeNext core.config) (sym is_next.is) (longer_follows core.config is_next.volume stands.on is_next.on sound_more is_next.lost)

  pub next_some : SomeActive next n
  next_some = subst (λ (x : Config). SomeActive x n) (sym is_next.is) (last_some core.config is_next.volume stands.on is_next.on sound_more)

  next_active : (w p : ℕ) → w < n → active next w p ≡ active core.config w p
  next_active w p lt = ap (λ (x : Config). active x w p) is_next.is ∙ active_more core.config is_next.volume w p lt

  pub next_can : CanSpell next
  next_can = subst CanSpell (sym is_next.is) (record { serial = stands.serial; disks = stands.disks; rvg = (can_of core m stands).rvg })

  pub next_wanted : (m' : Meaning) → m'.units ≡ m.units → ((u : ℕ) → m'.size u ≡ m.size u) → is_wanted m'.units m'.size next ≡ true
  next_wanted m' units size = wanted_same m m' next units size (
      let parts = and_parts (is_sound core.config) (fits_units m.units m.size core.config) stands.wanted in
      and_from (is_sound next) (fits_units m.units m.size next) is_next.sound (ap (λ (ds : List DiskEntry). length ds == m.units && have_blocks m.size 0 ds) next_disks ∙ parts.1))

  pub next_fit : DisksFit next.disks m
  next_fit = subst (λ (ds : List DiskEntry). DisksFit ds m) (sym next_disks) (fit_of core m stands)

  next_small : (w : ℕ) → blocks_of next.volumes w < 2 ^ 64
  next_small w = elim (cases_lt w n) [
    | inl lt ↦ let is = blocks_is w ∙ blocks_more core.config is_next.volume w lt in let small = stands.small w in omega (arith, is, small)
    | inr le ↦ elim (cases_eq w n) [
      | inl at ↦ let is = ap (λ (x : ℕ). blocks_of next.volumes x) at ∙ blocks_is n ∙ blocks_last core.config is_next.volume in let small = is_next.small in omega (arith, is, small)
      | inr other ↦ let none : blocks_of next.volumes w ≡ 0 = ap blocks_or_none (slice_get_past next.volumes w (omega (arith, next_count, le, other))) in omega (arith, none)
    ]
  ]
    where
      blocks_is : (w : ℕ) → blocks_of next.volumes w ≡ blocks_of (with_volume core.config is_next.volume).volumes w
      blocks_is w = ap (λ (x : Config). blocks_of x.volumes w) is_next.is

  -- why its commit is refused
  pub missed_blames : (m1 m2 : Meaning) (last : ℕ) (why : No) → CommitStops core.good next last m1 m2 why → (IsTrue m2.down → ⊥) → core.config.serial < greatest → Blames {T = Unit {0}} m1 m2 (Err (fault_of why 0))
  missed_blames m1 m2 last why cause up more = stop_sure core.good next last m1 m2 (subst (λ (ds : List DiskEntry). NoneGood ds (length ds) core.good → ⊥) (sym next_disks) stands.some) up why 0 (omega (arith, next_serial, more)) cause

  -- ---- zeros on its plexes are at no place of the others

  zeros_high : (u b : ℕ) (x : List ℕ) → ZerosOn next n u b x → 512 ≤ b
  zeros_high u b x put =
      let far : 512 ≤ (place next n put.plex put.number).1 = (stand_apart next is_next.sound).above n put.plex put.number put.inside put.is_on in
      let is : (place next n put.plex put.number).1 ≡ b = ap (λ (q : ℕ × ℕ). q.1) put.at in
      omega (arith, far, is)

  zeros_off : (w p b : ℕ) (x : List ℕ) → Inside core.config w b → IsTrue (active core.config w p) → ZerosOn next n (place core.config w p b).0 (place core.config w p b).1 x → ⊥
  zeros_off w p b x in_it is_on put =
      let lt : w < n = in_it.volume in
      let in_next : Inside next w b = record { volume = omega (arith, lt, next_count); within = let same = next_follows.shape.blocks w lt in let within : b < blocks_of core.config.volumes w = in_it.within in omega (arith, same, within) } in
      let on_next : IsTrue (active next w p) = next_active w p lt ∙ is_on in
      let same : w ≡ n = ((stand_apart next is_next.sound).one w p b n put.plex put.number in_next put.inside on_next put.is_on (next_follows.shape.place w p b lt ∙ sym put.at)).0 in
      omega (arith, lt, same)

  -- calls that put zeros there alone
  acts_Goes : (m' : Meaning) → Lawful m' → Acts (ZerosOn next n) (Sees core.config (Member core.good m) m) m m' → Goes Nothing (inner_meaning core m) (inner_meaning core m')
  acts_Goes m' after acts = group-Goes core.config core.config (Member core.good m) (volume_faults core.faults) (volume_faults core.faults) m m' (ZerosOn next n) Nothing acts (apart_of_core core m stands) (same_shape core.config) (λ w p is. is)
      (λ w p b x in_it is_on put. zeros_off w p b x in_it is_on put) (λ w. omega arith) (λ not t i left. after.never not t i left)

  module _ (m1 : Meaning) (before : Lawful m) (mid : Lawful m1) (goes : Goes (ZerosOn next n) m m1) where
    pub zero_Stands : InnerStands core m1
    zero_Stands = low_Stands core (ZerosOn next n) m m1 goes zeros_high before mid stands

    pub zero_finds : FindsFrom NoConfiguration m m1
    zero_finds = low_finds core (ZerosOn next n) m m1 goes zeros_high before mid stands

    -- no more is left of plexes that are ACTIVE
    zero_less : NoMoreLeft core.config m m1
    zero_less = record {
      each = λ w p b x is_on in_it left. ⊎_elim (λ was. was) (λ put. absurd (zeros_off w p b x in_it is_on put)) (goes.leaves _ _ x left);
    }

    pub zero_alike : KeepsAlike m m1
    zero_alike = record { alike = alike_behind core.config (Member core.good m) m m1 stands.kept zero_less zero_finds }

    -- nor behind a commit that is refused
    pub left_alike : (m2 : Meaning) → Acts Nothing (Sees core.config (Member core.good m1) m1) m1 m2 → FindsFrom (IsTryOf next) m1 m2 → KeepsAlike m m2
    left_alike m2 acts tries = record {
      alike = λ was v.
          alike_tried core.config (Member core.good m1) m1 m2 zero_Stands.kept (less_acts core.config (Sees core.config (Member core.good m1) m1) m1 m2 (apart_of_core core m1 zero_Stands) acts) v (zero_alike.alike was v) next next_on tries;
    }

    zero_acts : Acts (ZerosOn next n) (Sees core.config (Member core.good m) m) m m1
    zero_acts = low_Acts core.config (Member core.good m) m m1 (ZerosOn next n) goes zeros_high before mid (kept_of core m stands)

    pub zero_beside : Acts (ZerosOn next n) Anything m m1
    zero_beside = wider_Acts (ZerosOn next n) (ZerosOn next n) (Sees core.config (Member core.good m) m) m m1 zero_acts (λ u b x put. put)

    pub zero_stay : StayAsWere core core m m1
    zero_stay = record {
      goes = acts_Goes m1 mid zero_acts;
      shape = same_extends core.config core.config (same_shape core.config);
      on = λ w p lt. refl;
      faults = refl;
      unsure = refl;
    }

    pub next_tidy : core.unsettled ≡ false → IsTidy next m1
    next_tidy settled = record {
      each = λ u held. subst (λ (s : ℕ). Tidy (on_shelf m1) (s + 1) (m1.leaves u)) (sym next_serial)
          ((tidy_of core m1 zero_Stands settled).each u (record { below = held.below; good = ap (λ (ds : List DiskEntry). failed_at ds u) (sym next_disks) ∙ held.good }));
    }

    module _ (m2 : Meaning) (after : Lawful m2) (commit : Acts Nothing (Sees core.config (Member core.good m1) m1) m1 m2) (e : Inner) (faults : e.faults ≡ core.faults) (unsure : e.unsure ≡ core.unsure) where
      whole_acts : Acts (ZerosOn next n) (Sees core.config (Member core.good m) m) m m2
      whole_acts = wide_Acts (Or (ZerosOn next n) Nothing) (ZerosOn next n) (Sees core.config (Member core.good m) m) m m2
          (both_Acts (ZerosOn next n) Nothing (Sees core.config (Member core.good m) m) (Sees core.config (Member core.good m1) m1) m m1 m2 zero_acts commit (λ i sees. sees_back core.good core.config m m1 goes.units goes.size i sees))
          (λ u b x. ⊎_elim (λ put. put) (λ none. absurd none))

      pub whole_beside : Acts (ZerosOn next n) Anything m m2
      whole_beside = wider_Acts (ZerosOn next n) (ZerosOn next n) (Sees core.config (Member core.good m) m) m m2 whole_acts (λ u b x put. put)

      whole_goes : Goes Nothing (inner_meaning core m) (group_meaning core.config (volume_faults e.faults) m2)
      whole_goes = subst (λ (f : List ℕ). Goes Nothing (inner_meaning core m) (group_meaning core.config (volume_faults f) m2)) (sym faults) (acts_Goes m2 after whole_acts)

      -- done
      module _ (taken : Taken core.config next e.config m1 m2) (good : e.good ≡ good_set e.config.disks) (wanted : is_wanted m2.units m2.size e.config ≡ true) (can : CanSpell e.config) (on : AllOn e.config) where
        pub added_Stands : Trusts e.committed e.agreed (good_set e.config.disks) m2 → InnerStands e m2
        added_Stands trusts = made e m2 wanted can (let few = is_next.few in let same = ap length taken.grown.volumes in omega (arith, few, same))
            (λ w. let small = next_small w in let same = ap (λ (vs : List VolumeEntry). blocks_of vs w) taken.grown.volumes in omega (arith, small, same))
            (still_large m m2 whole_acts.units whole_acts.size stands.large) on
            (subst (λ (g : ℕ). NoneGood e.config.disks (length e.config.disks) g → ⊥) (sym good) (some_good e.config.disks (good_set e.config.disks) taken.some))
            (subst (λ (g : ℕ). Kept e.config (Member g m2) m2) (sym good) taken.kept) (λ is. taken.tidy) (subst (λ (g : ℕ). Trusts e.committed e.agreed g m2) (sym good) trusts)

        pub added_stay : StayAsWere core e m m2
        added_stay = record {
          goes = whole_goes;
          shape = taken.shape;
          on = λ w p lt. active_volumes e.config next taken.grown.volumes w p ∙ next_active w p lt;
          faults = faults;
          unsure = unsure;
        }

        pub added : AreZero next n m1 → Added core e next m2
        added zero = record {
          volumes = taken.grown.volumes;
          begins = record {
            each = λ p k x is_on in_it left.
                let on_next : IsTrue (active next n p) = sym (active_volumes e.config next taken.grown.volumes n p) ∙ is_on in
                let in_next : Inside next n k = record {
                  volume = let lt : n < length e.config.volumes = in_it.volume in let same = ap length taken.grown.volumes in omega (arith, lt, same);
                  within = let lt : k < blocks_of e.config.volumes n = in_it.within in let same = ap (λ (vs : List VolumeEntry). blocks_of vs n) taken.grown.volumes in omega (arith, lt, same);
                } in
                let at : place e.config n p k ≡ place next n p k = place_volumes e.config next taken.grown.volumes n p k in
                let left_next : m2.leaves (place next n p k).0 (place next n p k).1 x = subst (λ (q : ℕ × ℕ). m2.leaves q.0 q.1 x) at left in
                zero.each p k x on_next in_next (⊎_elim (λ was. was) (λ none. absurd none)
                (commit.leaves (place next n p k).0 (place next n p k).1 x ((stand_apart next is_next.sound).above n p k in_next on_next) left_next));
          };
        }

      -- refused
      module _ (d : Config) (why : No) (missed : MissedCommit core.good core.config next d m1 m2 why) (can : CanSpell d) (good : e.good ≡ core.good) (un : e.unsettled ≡ true)
          (config : e.config ≡ record { serial = d.serial; site = core.config.site; disks = core.config.disks; volumes = core.config.volumes; rvg = core.config.rvg }) where
        abbrev back : Config
        back = record { serial = d.serial; site = core.config.site; disks = core.config.disks; volumes = core.config.volumes; rvg = core.config.rvg }

        back_wanted : is_wanted m2.units m2.size back ≡ true
        back_wanted = wanted_same m m2 back whole_acts.units whole_acts.size (wanted_serial m.units m.size core.config d.serial stands.wanted)

        pub missed_Stands : Trusts e.committed e.agreed core.good m2 → InnerStands e m2
        missed_Stands trusts = made e m2 (subst (λ (x : Config). is_wanted m2.units m2.size x ≡ true) (sym config) back_wanted) (subst CanSpell (sym config) (can_serial d.serial core.config d (can_of core m stands) can refl))
            (let few = stands.few in let same = ap (λ (x : Config). length x.volumes) config in omega (arith, few, same))
            (λ w. let small = stands.small w in let same = ap (λ (x : Config). blocks_of x.volumes w) config in omega (arith, small, same))
            (still_large m m2 whole_acts.units whole_acts.size stands.large) (subst AllOn (sym config) (all_serial d.serial core.config stands.on))
            (subst (λ (g : ℕ). NoneGood e.config.disks (length e.config.disks) g → ⊥) (sym good) (subst (λ (x : Config). NoneGood x.disks (length x.disks) core.good → ⊥) (sym config) stands.some))
            (subst (λ (g : ℕ). Kept e.config (Member g m2) m2) (sym good) (subst (λ (x : Config). Kept x (Member core.good m2) m2) (sym config) missed.kept)) (λ is. absurd (let clash : true ≡ false = sym un ∙ is in cc)) (subst (λ (g : ℕ). Trusts e.committed e.agreed g m2) (sym good) trusts)

        pub missed_volumes : e.config.volumes ≡ core.config.volumes
        missed_volumes = ap (λ (x : Config). x.volumes) config

        pub missed_stay : StayAsWere core e m m2
        missed_stay = record {
          goes = whole_goes;
          shape = same_extends e.config core.config (alike_shape e.config core.config core.config missed_volumes (same_shape core.config));
          on = λ w p lt. active_volumes e.config core.config missed_volumes w p;
          faults = faults;
          unsure = unsure;
        }
