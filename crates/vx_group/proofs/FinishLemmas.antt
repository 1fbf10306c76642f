-- The steps of an import in a row: headers, volumes, the last commit.
use Rattle.std.proofs.Common.{◌≡◌, ◌⊎◌, inl, inr, ⊎_elim, ℕ, zero, suc, ◌<◌, ◌≤◌, Bool, true, false, IsTrue, Option, List, [], ◌∷◌, length, Result, Ok, Err, refl, ap, sym, ◌∙◌, subst, arith}
use Rattle.std.specs.Prelude.{if◌then◌else◌}
use Rattle.vx_disk.specs.Causes.{DeviceCause, refusal_of}
use Rattle.vx_disk.specs.Counts.{Rose}
use Rattle.vx_disk.specs.Shelf.{Lawful, Meaning, Nothing}
use Rattle.vx_disk.specs.declared.shelf.ShelfError.{ShelfError}
use Rattle.vx_disk.specs.declared.shelf.ShelfError.TheVariants.{Fault, Down}
use Rattle.vx_disk.proofs.Causing.{Rose_after, Rose_before}
use Rattle.vx_model.specs.declared.no.Counted.TheVariants.{Number as Numbers}
use Rattle.vx_model.specs.declared.no.No.{No}
use Rattle.vx_model.specs.declared.no.No.TheVariants as refusal
use Rattle.vx_model.specs.declared.units.Units.{Units}
use Rattle.vx_config.specs.Configs.{CanSpell}
use Rattle.vx_config.specs.Table.{greatest}
use Rattle.vx_config.specs.declared.config.Config.{Config}
use Rattle.vx_config.specs.declared.entry.DiskEntry.{DiskEntry}
use Rattle.vx_config.specs.declared.entry.VolumeEntry.{VolumeEntry}
use Rattle.vx_copies.specs.Answers.{good_set}
use Rattle.vx_copies.specs.Bodies.{is_wanted}
use Rattle.vx_copies.specs.Commits.{CommitStops, Grown, MoreFailed}
use Rattle.vx_copies.specs.Marks.{NoneGood, blocks_at, failed_at}
use Rattle.vx_layout.specs.Places.{place}
use Rattle.vx_logs.specs.declared.logs.Logs.{Logs}
use Rattle.vx_volume.specs.Plexes.{active}
use Rattle.vx_volume.proofs.ReadRuns.{still}
use Rattle.vx_kept.specs.Cleans.{at_serial, is_unsure}
use Rattle.vx_kept.specs.Commits.{Left, Member, Taken}
use Rattle.vx_kept.specs.Keeping.{Acts, AllOn, Sees}
use Rattle.vx_kept.specs.States.{stale_at, staled}
use Rattle.vx_kept.proofs.StateLemmas.{then_shape}
use Rattle.vx_kept.proofs.Steps.{inside_back}
use Rattle.vx_group.specs.Blames.{Blames}
use Rattle.vx_group.specs.Finishes.{CommitMade, CommitsAs, Renews, SameOr}
use Rattle.vx_group.specs.Loses.{LosesPlexes, SameParts}
use Rattle.vx_group.specs.Mends.{GroupGoesOn, Mending}
use Rattle.vx_group.specs.Moves.{Narrows}
use Rattle.vx_group.specs.Quiesces.{AnyFailed}
use Rattle.vx_group.specs.Resumes.{IsMended, source_at}
use Rattle.vx_kept.specs.Trusts.{HasFailed, Trusts}
use Rattle.vx_group.specs.Stands.{InnerStands, volume_faults, inner_meaning}
use Rattle.vx_group.specs.declared.inner.Inner.{Inner}
use Rattle.vx_group.proofs.CallLemmas.{narrows_Goes}
use Rattle.vx_group.proofs.LoseLemmas.{grown_parts, loses_none, then_loses}
use Rattle.vx_group.proofs.CreateLemmas.{cause_before}
use Rattle.vx_group.proofs.DetachLemmas.{left_Narrows, left_Stands, staled_some, taken_Narrows, taken_Stands, zero_bit}
use Rattle.vx_group.proofs.Standing.{apart_of_core}

-- ---- a call that changes no block of a plex

pub narrows_on : (core d : Inner) (m m' : Meaning) → Lawful m' → InnerStands core m → InnerStands d m' → Narrows core d m m' → GroupGoesOn core d m m'
narrows_on core d m m' after stands stands' narrows = record {
  stands = stands';
  shape = narrows.shape;
  on = narrows.on;
  faults = narrows.faults;
  unsure = narrows.unsure;
  goes = narrows_Goes core d m m' after stands narrows (volume_faults core.faults) (volume_faults d.faults) (λ u. let same : volume_faults d.faults u ≡ volume_faults core.faults u = ap (λ (f : List ℕ). volume_faults f u) narrows.faults in omega (arith, same));
  unit_faults = narrows.acts.faults;
  disk_faults = narrows.acts.disk_faults;
}

pub both_on : (core d e : Inner) (m0 m1 m2 : Meaning) → GroupGoesOn core d m0 m1 → GroupGoesOn d e m1 m2 → GroupGoesOn core e m0 m2
both_on core d e m0 m1 m2 one two = record {
  stands = two.stands;
  shape = then_shape e.config d.config core.config two.shape one.shape;
  on = λ w p is. one.on w p (two.on w p is);
  faults = two.faults ∙ one.faults;
  unsure = two.unsure ∙ one.unsure;
  goes = still (inner_meaning core m0) (inner_meaning d m1) (inner_meaning e m2) one.goes two.goes;
  unit_faults = λ u. let a = one.unit_faults u in let b = two.unit_faults u in omega (arith, a, b);
  disk_faults = λ u. let a = one.disk_faults u in let b = two.disk_faults u in omega (arith, a, b);
}

-- ---- why

pub blamed_cause : (T : Type 0) (old new : Meaning) (error : ShelfError) → Blames {T = T} old new (Err error) → DeviceCause old new (refusal_of error)
blamed_cause T old new (Fault disk) why = why.0
blamed_cause T old new Down down = down

stop_late : (good : ℕ) (c : Config) (last : ℕ) (old new : Meaning) → (NoneGood c.disks (length c.disks) good → ⊥) → (why : No) → CommitStops good c last old new why → DeviceCause old new why ⊎ ((why ≡ refusal.Limit Numbers greatest) × (greatest ≤ c.serial))
stop_late good c last old new some (refusal.Device disk) stops = inl (⊎_elim (λ rose. rose) (λ none. absurd (some none.0)) stops.1)
stop_late good c last old new some refusal.Down stops = inl stops.1
stop_late good c last old new some (refusal.Limit Numbers most) stops = inr (ap (refusal.Limit Numbers) stops.1, stops.0)
stop_late good c last old new some other stops = absurd stops

-- ---- disks of which none more is held as failed

entry : ℕ → Bool → DiskEntry
entry blocks failed = record { blocks = blocks; failed = failed }

disks_same : (before after : List DiskEntry) (P : ℕ → Type 0) → length after ≡ length before → ((u : ℕ) → blocks_at after u ≡ blocks_at before u) → ((u : ℕ) → failed_at before u ≡ true → failed_at after u ≡ true)
    → ((u : ℕ) → failed_at before u ≡ false → failed_at after u ≡ true → P u) → (after ≡ before) ⊎ ((u : ℕ) × P u)
unfolding entry
disks_same [] [] P count blocks stays blamed = inl refl
disks_same [] (a ∷ ds) P count blocks stays blamed = absurd (omega (arith, count))
disks_same (b ∷ bs) [] P count blocks stays blamed = absurd (omega (arith, count))
disks_same (b ∷ bs) (a ∷ ds) P count blocks stays blamed =
    by b.failed a.failed refl refl (disks_same bs ds (λ u. P (suc u)) (omega (arith, count)) (λ u. blocks (suc u)) (λ u. stays (suc u)) (λ u. blamed (suc u)))
  where
    both : b.failed ≡ a.failed → ds ≡ bs → (a ∷ ds) ≡ (b ∷ bs)
    both same rest =
        let one : a ≡ b = ap (λ (n : ℕ). entry n a.failed) (blocks 0) ∙ ap (λ (f : Bool). entry b.blocks f) (sym same) in
        ap (λ (x : DiskEntry). x ∷ ds) one ∙ ap (λ (xs : List DiskEntry). b ∷ xs) rest

    by : (f g : Bool) → b.failed ≡ f → a.failed ≡ g → (ds ≡ bs) ⊎ ((u : ℕ) × P (suc u)) → ((a ∷ ds) ≡ (b ∷ bs)) ⊎ ((u : ℕ) × P u)
    by f g was is (inr it) = inr (suc it.0, it.1)
    by true true was is (inl rest) = inl (both (was ∙ sym is) rest)
    by true false was is (inl rest) = absurd (let clash : true ≡ false = sym (stays 0 was) ∙ is in cc)
    by false true was is (inl rest) = inr (0, blamed 0 was is)
    by false false was is (inl rest) = inl (both (was ∙ sym is) rest)

parts : ℕ → ℕ → List DiskEntry → List VolumeEntry → Option Units → Config
parts serial site disks volumes rvg = record { serial = serial; site = site; disks = disks; volumes = volumes; rvg = rvg }

same_config : (c d : Config) → d.site ≡ c.site → d.disks ≡ c.disks → d.volumes ≡ c.volumes → d.rvg ≡ c.rvg → d ≡ at_serial d.serial c
unfolding parts
same_config c d site disks volumes rvg =
    ap (λ (s : ℕ). parts d.serial s d.disks d.volumes d.rvg) site ∙ ap (λ (ds : List DiskEntry). parts d.serial c.site ds d.volumes d.rvg) disks
    ∙ ap (λ (vs : List VolumeEntry). parts d.serial c.site c.disks vs d.rvg) volumes ∙ ap (λ (r : Option Units). parts d.serial c.site c.disks c.volumes r) rvg

grown_same : (c d : Config) (old new : Meaning) → c.serial < d.serial → Grown old new c d → SameOr c d old new
grown_same c d old new later grown = elim (disks_same c.disks d.disks (λ u. Rose (old.faults u) (new.faults u)) grown.disks.count grown.disks.blocks grown.disks.stays grown.disks.blamed) [
  | inl same ↦ inl (later, same_config c d grown.site same grown.volumes grown.rvg)
  | inr it ↦ inr (inr it)
]

-- ---- the last commit

none_staled : (v : ℕ) (c : Config) (n : ℕ) → staled v 0 c n ≡ c
none_staled v c zero = refl
none_staled v c (suc n) = ap (λ (b : Bool). if b then stale_at v n (staled v 0 c n) else staled v 0 c n) (zero_bit 0 n refl) ∙ none_staled v c n

module _ (core e : Inner) (m m' : Meaning) (after : Lawful m') (stands : InnerStands core m) (acts : Acts Nothing (Sees core.config (Member core.good m) m) m m')
    (wanted : is_wanted m'.units m'.size e.config ≡ true) (can : CanSpell e.config) (on : AllOn e.config) (faults : e.faults ≡ core.faults) (unsure : e.unsure ≡ core.unsure) where
  module _ (taken : Taken core.config (staled 0 0 core.config 8) e.config m m') (good : e.good ≡ good_set e.config.disks) (trusts : Trusts e.committed e.agreed (good_set e.config.disks) m') where
    pub commit_on : GroupGoesOn core e m m'
    commit_on = narrows_on core e m m' after stands (taken_Stands core e 0 0 m m' stands acts wanted can on faults unsure taken good trusts) (taken_Narrows core e 0 0 m m' stands acts wanted can on faults unsure taken good)

    pub commit_made : e.unsettled ≡ false → (IsTrue m'.down → ⊥) → (e.committed ≡ true) ⊎ HasFailed e.config.disks → CommitMade core e m m'
    commit_made settled up trust = record {
      on = commit_on;
      settled = settled;
      up = up;
      same = subst (λ (c : Config). SameOr c e.config m m') (none_staled 0 core.config 8) (grown_same (staled 0 0 core.config 8) e.config m m' taken.later taken.grown);
      loses = subst (λ (c : Config). LosesPlexes c e.config m m') (none_staled 0 core.config 8) (loses_none (staled 0 0 core.config 8) e.config m m' taken.grown.volumes taken.grown.disks (grown_parts m m' (staled 0 0 core.config 8) e.config taken.grown taken.later));
      finds = taken.finds;
      trust = trust;
    }

  pub commit_left : (why : No) → Left core.good core.config (staled 0 0 core.config 8) e.config m m' why → e.good ≡ core.good → e.unsettled ≡ true → Trusts e.committed e.agreed core.good m' → GroupGoesOn core e m m' × (DeviceCause m m' why ⊎ ((why ≡ refusal.Limit Numbers greatest) × (greatest ≤ core.config.serial)))
  commit_left why left good un trusts = (
    narrows_on core e m m' after stands (left_Stands core e 0 0 m m' stands acts wanted can on faults unsure (staled 0 0 core.config 8) why left good un trusts) (left_Narrows core e 0 0 m m' stands acts wanted can on faults unsure (staled 0 0 core.config 8) why left good un),
    subst (λ (c : Config). DeviceCause m m' why ⊎ ((why ≡ refusal.Limit Numbers greatest) × (greatest ≤ c.serial))) (none_staled 0 core.config 8)
        (stop_late core.good (staled 0 0 core.config 8) e.config.serial m m' (staled_some core.config 0 0 core.good stands.some) why left.cause),
  )

-- ---- headers that were settled, and then volumes

module _ (core d e f : Inner) (flags : List Bool) (sources : List ℕ) (logs : List Logs) (m0 m1 m2 m3 : Meaning) (law1 : Lawful m1) (stands : InnerStands core m0) (stands1 : InnerStands d m1) (first : Narrows core d m0 m1) where
  first_on : GroupGoesOn core d m0 m1
  first_on = narrows_on core d m0 m1 law1 stands stands1 first

  pub stopped_on : GroupGoesOn d e m1 m2 → GroupGoesOn core e m0 m2
  stopped_on two = both_on core d e m0 m1 m2 first_on two

  module _ (volumes : d.config.volumes ≡ core.config.volumes) (serial : d.config.serial ≡ core.config.serial) (unmoved : (d.config ≡ core.config) ⊎ AnyFailed m0 m1) (failing : MoreFailed m0 m1 core.config.disks d.config.disks) (parts : SameParts core.config d.config) (up1 : IsTrue m1.down → ⊥)
      (mending : Mending d flags sources logs (length d.config.volumes) e m1 m2) where
    count_same : length d.config.volumes ≡ length core.config.volumes
    count_same = ap length volumes

    mend_goes : GroupGoesOn core e m0 m2
    mend_goes = both_on core d e m0 m1 m2 first_on mending.on

    -- a call that failed on the way
    rose_first : AnyFailed m0 m1 → ((u : ℕ) → m1.disk_faults u ≤ m3.disk_faults u) → AnyFailed m0 m3
    rose_first rose le = (rose.0, Rose_after (m0.disk_faults rose.0) (m1.disk_faults rose.0) (m3.disk_faults rose.0) rose.1 (le rose.0))

    rose_then : AnyFailed m1 m2 → ((u : ℕ) → m2.disk_faults u ≤ m3.disk_faults u) → AnyFailed m0 m3
    rose_then rose le = (
      rose.0,
      Rose_after (m0.disk_faults rose.0) (m2.disk_faults rose.0) (m3.disk_faults rose.0)
          (Rose_before (m0.disk_faults rose.0) (m1.disk_faults rose.0) (m2.disk_faults rose.0) (first.acts.disk_faults rose.0) rose.1) (le rose.0),
    )

    module _ (last : GroupGoesOn e f m2 m3) where
      since_first : (u : ℕ) → m1.disk_faults u ≤ m3.disk_faults u
      since_first u = let a = mending.on.disk_faults u in let b = last.disk_faults u in omega (arith, a, b)

      -- where the last serial was used some disk failed
      spent_rose : core.config.serial < greatest → greatest ≤ e.config.serial → AnyFailed m0 m3
      spent_rose less none = by mending.spent.any
        where
          by : (e.config ≡ d.config) ⊎ AnyFailed m1 m2 → AnyFailed m0 m3
          by (inl same) = absurd (let at : e.config.serial ≡ d.config.serial = ap (λ (c : Config). c.serial) same in omega (arith, at, serial, less, none))
          by (inr rose) = rose_then rose last.disk_faults

      all_same : SameOr e.config f.config m2 m3 → SameOr core.config f.config m0 m3
      all_same end = by unmoved mending.spent.any end
        where
          by : (d.config ≡ core.config) ⊎ AnyFailed m0 m1 → (e.config ≡ d.config) ⊎ AnyFailed m1 m2 → SameOr e.config f.config m2 m3 → SameOr core.config f.config m0 m3
          by (inr rose) spent is = inr (inl (rose_first rose since_first))
          by (inl one) (inr rose) is = inr (inl (rose_then rose last.disk_faults))
          by (inl one) (inl two) (inl is) =
              let both : e.config ≡ core.config = two ∙ one in
              inl (subst (λ (c : Config). (c.serial < f.config.serial) × (f.config ≡ at_serial f.config.serial c)) both is)
          by (inl one) (inl two) (inr (inl rose)) = inr (inl (rose.0, Rose_before (m0.disk_faults rose.0) (m2.disk_faults rose.0) (m3.disk_faults rose.0) (mend_goes.disk_faults rose.0) rose.1))
          by (inl one) (inl two) (inr (inr rose)) = inr (inr (rose.0, Rose_before (m0.faults rose.0) (m2.faults rose.0) (m3.faults rose.0) (mend_goes.unit_faults rose.0) rose.1))

      all_loses : LosesPlexes e.config f.config m2 m3 → LosesPlexes core.config f.config m0 m3
      all_loses end = then_loses m0 m2 m3 mend_goes.unit_faults last.unit_faults core.config e.config f.config
          (then_loses m0 m1 m2 first.acts.faults mending.on.unit_faults core.config d.config e.config (loses_none core.config d.config m0 m1 volumes failing parts) mending.spent.loses) end

      -- what was read of a volume that was made alike was so before the headers were settled
      all_mended : ((v : ℕ) → v < length core.config.volumes → IsTrue (active core.config v (source_at sources v))) → (v : ℕ) → v < length core.config.volumes → is_unsure flags v ≡ true → IsMended core.config v (source_at sources v) f m0 m3
      all_mended source_on v lt mark =
          let was = mending.mended v (omega (arith, lt, count_same)) mark in
          record {
            value = was.value;
            origin = λ k in_it tells.
                let s = source_at sources v in
                let read : m1.reads (place core.config v s k).0 (place core.config v s k).1 (was.value k) = subst (λ (q : ℕ × ℕ). m1.reads q.0 q.1 (was.value k)) (first.shape.place v s k)
                (was.origin k (inside_back d.config core.config first.shape v k in_it) (first.acts.tells ∙ tells)) in
                elim (first.acts.reads (place core.config v s k).0 (place core.config v s k).1 (was.value k) ((apart_of_core core m0 stands).above v s k in_it (source_on v lt)) read) [
                  | inl (inl is) ↦ is
                  | inl (inr none) ↦ absurd none
                  | inr down ↦ absurd (up1 down)
                ];
            one = λ k x in_it left. was.one k x (inside_back d.config core.config first.shape v k in_it) (⊎_elim (λ is. is) (λ none. absurd none) (last.goes.leaves v k x left));
          }

    pub renew_all : {T : Type 0} (r : Result T No) → core.config.serial < greatest → ((v : ℕ) → v < length core.config.volumes → IsTrue (active core.config v (source_at sources v))) → CommitsAs e f m2 m3 r → Renews flags sources core f m0 m3 r
    renew_all (Ok x) less source_on made = record {
      made = record { on = both_on core e f m0 m2 m3 mend_goes made.on; settled = made.settled; up = made.up; same = all_same made.on made.same; loses = all_loses made.on made.loses; finds = made.finds; trust = made.trust };
      mended = all_mended made.on source_on;
    }
    renew_all (Err why) less source_on stops = (
      both_on core e f m0 m2 m3 mend_goes stops.0,
      ⊎_elim (λ cause. inl (cause_before m0 m2 m3 mend_goes.disk_faults why cause)) (λ limit. inr (limit.0, spent_rose stops.0 less limit.1)) stops.1,
    )
