-- Flushes of volumes before a deport, one after the other.
use Rattle.std.proofs.Common.{◌≡◌, ◌⊎◌, inl, inr, ⊎_elim, ℕ, ◌+◌, ◌<◌, ◌≤◌, Bool, true, false, IsTrue, List, length, Result, Ok, Err, refl, ap, sym, ◌∙◌, subst, arith}
use Rattle.std.proofs.lemmas.Bool.{cases_eq, cases_lt}
use Rattle.vx_disk.specs.Shelf.{Meaning, Nothing, Or}
use Rattle.vx_disk.specs.declared.shelf.ShelfError.{ShelfError}
use Rattle.vx_disk.specs.declared.shelf.ShelfError.TheVariants.{Fault, Down}
use Rattle.vx_disk.proofs.Causing.{Rose_after, Rose_before}
use Rattle.vx_config.specs.Table.{greatest}
use Rattle.vx_copies.specs.Commits.{MoreFailed}
use Rattle.vx_layout.specs.Places.{place}
use Rattle.vx_volume.specs.Plexes.{active}
use Rattle.vx_volume.specs.Volumes.{PlexFlushed}
use Rattle.vx_kept.specs.Cleans.{is_unsure}
use Rattle.vx_kept.specs.Commits.{Member}
use Rattle.vx_kept.specs.Groups.{PlacesApart}
use Rattle.vx_kept.specs.Keeping.{SameShape, Sees}
use Rattle.vx_kept.proofs.StateLemmas.{then_shape}
use Rattle.vx_kept.proofs.Steps.{both_Acts, inside_back, wide_Acts}
use Rattle.vx_group.specs.Blames.{Blames, MarksUnsure}
use Rattle.vx_group.specs.Copying.{NoMember}
use Rattle.vx_group.specs.Deports.{IsVolumeOf}
use Rattle.vx_group.specs.Moves.{AllFlushed, Narrows}
use Rattle.vx_group.specs.Quiesces.{AnyFailed, GivenBack, GoesOnBy, NoVolume, QuiesceEnds, Quiesced, Quiesces}
use Rattle.vx_group.specs.Stands.{InnerStands}
use Rattle.vx_group.specs.declared.inner.Inner.{Inner}
use Rattle.vx_group.specs.Loses.{LosesPlexes, SameParts}
use Rattle.vx_group.proofs.FailingLemmas.{no_failing}
use Rattle.vx_group.proofs.LoseLemmas.{loses_none, loses_same, none_parts, then_loses, then_parts}
use Rattle.vx_group.proofs.CopyLemmas.{loose_Acts, sees_none, sees_wider}
use Rattle.vx_group.proofs.Standing.{apart_of_core}
use Rattle.vx_group.proofs.WriteLemmas.{no_commit}

-- ---- two in a row

pub or_failed : {A : Type 0} (x y z : A) (m0 m1 m2 : Meaning) → ((u : ℕ) → m0.disk_faults u ≤ m1.disk_faults u) → ((u : ℕ) → m1.disk_faults u ≤ m2.disk_faults u) → (y ≡ x) ⊎ AnyFailed m0 m1 → (z ≡ y) ⊎ AnyFailed m1 m2 → (z ≡ x) ⊎ AnyFailed m0 m2
or_failed x y z m0 m1 m2 before after (inr rose) two = inr (rose.0, Rose_after (m0.disk_faults rose.0) (m1.disk_faults rose.0) (m2.disk_faults rose.0) rose.1 (after rose.0))
or_failed x y z m0 m1 m2 before after (inl same) (inl more) = inl (more ∙ same)
or_failed x y z m0 m1 m2 before after (inl same) (inr rose) = inr (rose.0, Rose_before (m0.disk_faults rose.0) (m1.disk_faults rose.0) (m2.disk_faults rose.0) (before rose.0) rose.1)

module _ (c d e : Inner) (P Q R : ℕ → Type 0) (m0 m1 m2 : Meaning) (apart : PlacesApart c.config) (one : Quiesces c d P m0 m1) (two : Quiesces d e Q m1 m2) (up : IsTrue m1.down → ⊥) (part : (v : ℕ) → R v → P v ⊎ Q v) where
  from_first : (v p : ℕ) → PlexFlushed c.config v p m0 m1 → IsTrue (active c.config v p) → PlexFlushed c.config v p m0 m2
  from_first v p was is_on = record {
    each = λ k x in_it left. was.each k x in_it (⊎_elim (λ is. is) (λ none. absurd none) (two.acts.leaves (place c.config v p k).0 (place c.config v p k).1 x (apart.above v p k in_it is_on) left));
  }

  from_second : (v p : ℕ) → PlexFlushed d.config v p m1 m2 → IsTrue (active c.config v p) → PlexFlushed c.config v p m0 m2
  from_second v p now is_on = record {
    each = λ k x in_it left.
        let at : place d.config v p k ≡ place c.config v p k = one.shape.place v p k in
        let read : m1.reads (place c.config v p k).0 (place c.config v p k).1 x = subst (λ (q : ℕ × ℕ). m1.reads q.0 q.1 x) at
        (now.each k x (inside_back d.config c.config one.shape v k in_it) (subst (λ (q : ℕ × ℕ). m2.leaves q.0 q.1 x) (sym at) left)) in
        elim (one.acts.reads (place c.config v p k).0 (place c.config v p k).1 x (apart.above v p k in_it is_on) read) [
          | inl (inl was) ↦ was
          | inl (inr none) ↦ absurd none
          | inr down ↦ absurd (up down)
        ];
  }

  pub both_quiesce : Quiesces c e R m0 m2
  both_quiesce = record {
    acts = wide_Acts (Or Nothing Nothing) Nothing (Sees c.config NoMember m0) m0 m2
        (both_Acts Nothing Nothing (Sees c.config NoMember m0) (Sees d.config NoMember m1) m0 m1 m2 one.acts two.acts
        (λ i sees. sees_wider c.config d.config NoMember m0 m1 one.shape one.on one.acts.units one.acts.size i sees))
        (λ u b x. ⊎_elim (λ none. none) (λ none. none));
    shape = then_shape e.config d.config c.config two.shape one.shape;
    on = λ v p is. one.on v p (two.on v p is);
    volumes = or_failed c.config.volumes d.config.volumes e.config.volumes m0 m1 m2 one.acts.disk_faults two.acts.disk_faults one.volumes two.volumes;
    unsure = or_failed c.unsure d.unsure e.unsure m0 m1 m2 one.acts.disk_faults two.acts.disk_faults one.unsure two.unsure;
    loses = then_loses m0 m1 m2 one.acts.faults two.acts.faults c.config d.config e.config one.loses two.loses;
    sure = λ v is. one.sure v (two.sure v is);
    faults = two.faults ∙ one.faults;
    flushed = λ v p it sure is_on. elim (part v it) [
      | inl first ↦ from_first v p (one.flushed v p first (two.sure v sure) (two.on v p is_on)) (one.on v p (two.on v p is_on))
      | inr second ↦ from_second v p (two.flushed v p second sure is_on) (one.on v p (two.on v p is_on))
    ];
  }

pub both_parts : (c d e : Inner) → SameParts c.config d.config → SameParts d.config e.config → SameParts c.config e.config
both_parts c d e one two = then_parts c.config d.config e.config one two

-- ---- one step

-- no block was touched, by a commit or none
module _ (c d e : Inner) (which : ℕ → Type 0) (m m' : Meaning) (narrows : Narrows c d m m') where
  pub stepped : (e.config ≡ d.config) → e.faults ≡ d.faults → (d.config.volumes ≡ c.config.volumes) ⊎ AnyFailed m m' → (e.unsure ≡ c.unsure) ⊎ AnyFailed m m' → ((v : ℕ) → is_unsure e.unsure v ≡ false → is_unsure c.unsure v ≡ false)
      → ((v p : ℕ) → which v → is_unsure e.unsure v ≡ false → IsTrue (active d.config v p) → PlexFlushed c.config v p m m') → LosesPlexes c.config d.config m m' → Quiesces c e which m m'
  stepped same counts volumes unsure sure flushed loses = record {
    acts = loose_Acts Nothing (Sees c.config (Member c.good m) m) (Sees c.config NoMember m) m m' narrows.acts (λ i sees. sees_none c.config (Member c.good m) m i sees);
    shape = subst (λ x. SameShape x c.config) (sym same) narrows.shape;
    on = λ v p is. narrows.on v p (ap (λ x. active x v p) (sym same) ∙ is);
    volumes = ⊎_elim (λ is. inl (ap (λ x. x.volumes) same ∙ is)) (λ rose. inr rose) volumes;
    unsure = unsure;
    loses = subst (λ x. LosesPlexes c.config x m m') (sym same) loses;
    sure = sure;
    faults = counts ∙ narrows.faults;
    flushed = λ v p it off is_on. flushed v p it off (ap (λ x. active x v p) (sym same) ∙ is_on);
  }

-- no volume was flushed
pub quiet : (c d : Inner) (m m' : Meaning) → Narrows c d m m' → d.config.volumes ≡ c.config.volumes → MoreFailed m m' c.config.disks d.config.disks → SameParts c.config d.config → Quiesces c d NoVolume m m'
quiet c d m m' narrows volumes failing parts = stepped c d d NoVolume m m' narrows refl refl (inl volumes) (inl narrows.unsure) (λ v is. ap (λ (u : List Bool). is_unsure u v) (sym narrows.unsure) ∙ is) (λ v p none. absurd none)
    (loses_none c.config d.config m m' volumes failing parts)

-- the plexes of one volume, as all its plexes were flushed
pub flushed_one : (c d e : Inner) (vol : ℕ) (m m' : Meaning) → Narrows c d m m' → AllFlushed d.config vol m m' → (v p : ℕ) → v ≡ vol → is_unsure e.unsure v ≡ false → IsTrue (active d.config v p) → PlexFlushed c.config v p m m'
flushed_one c d e vol m m' narrows all v p at off is_on = record {
  each = λ k x in_it left.
      let was : PlexFlushed d.config v p m m' = subst (λ (w : ℕ). PlexFlushed d.config w p m m') (sym at) (all.each p (subst (λ (w : ℕ). IsTrue (active d.config w p)) at is_on)) in
      let same : place d.config v p k ≡ place c.config v p k = narrows.shape.place v p k in
      subst (λ (q : ℕ × ℕ). m.reads q.0 q.1 x) same (was.each k x (inside_back d.config c.config narrows.shape v k in_it) (subst (λ (q : ℕ × ℕ). m'.leaves q.0 q.1 x) (sym same) left));
}

-- ---- marks

pub sure_marked : (error : ShelfError) (vol : ℕ) (old new : List Bool) → MarksUnsure error vol old new → (v : ℕ) → is_unsure new v ≡ false → is_unsure old v ≡ false
sure_marked (Fault disk) vol old new it v off = elim (cases_eq v vol) [
  | inl at ↦ absurd (let on : is_unsure new v ≡ true = subst (λ (w : ℕ). is_unsure new w ≡ true) (sym at) it.here in let clash : true ≡ false = sym on ∙ off in cc)
  | inr other ↦ sym (it.others v other) ∙ off
]
sure_marked Down vol old new it v off = ap (λ (u : List Bool). is_unsure u v) (sym it) ∙ off

pub or_marked : (error : ShelfError) (vol : ℕ) (old new : List Bool) (m m' : Meaning) → MarksUnsure error vol old new → Blames {T = Unit {0}} m m' (Err error) → (new ≡ old) ⊎ AnyFailed m m'
or_marked (Fault disk) vol old new m m' it why = inr (disk, why.0)
or_marked Down vol old new m m' it why = inl it

pub unsure_Stands : (core : Inner) (unsure : List Bool) (m : Meaning) → InnerStands core m → InnerStands (record { config = core.config; good = core.good; room = core.room; unsettled = core.unsettled; committed = core.committed; agreed = core.agreed; next = core.next; faults = core.faults; unsure = unsure }) m
unsure_Stands core unsure m s = record {
  wanted = s.wanted;
  serial = s.serial;
  disks = s.disks;
  rvg = s.rvg;
  few = s.few;
  small = s.small;
  large = s.large;
  on = s.on;
  some = s.some;
  kept = s.kept;
  tidy = s.tidy;
  trusts = s.trusts;
}

pub same_parts : (c : Inner) → SameParts c.config c.config
same_parts c = none_parts c.config

-- ---- how a flush of one volume ends

abbrev pub is_volume : ℕ → ℕ → Type 0
is_volume vol v = v ≡ vol

abbrev pub with_unsure : Inner → List Bool → Inner
with_unsure core unsure = record { config = core.config; good = core.good; room = core.room; unsettled = core.unsettled; committed = core.committed; agreed = core.agreed; next = core.next; faults = core.faults; unsure = unsure }

-- each plex failed, or the shelf fell
module _ (core : Inner) (vol : ℕ) (m m' : Meaning) (stands : InnerStands core m') (narrows : Narrows core core m m') (settled : core.unsettled ≡ false) (more : core.config.serial < greatest)
    (error : ShelfError) (unsure : List Bool) (marks : MarksUnsure error vol core.unsure unsure) (why : Blames {T = Unit {0}} m m' (Err error)) where
  off_none : MarksUnsure error vol core.unsure unsure → (v p : ℕ) → v ≡ vol → is_unsure unsure v ≡ false → is_unsure unsure vol ≡ true → PlexFlushed core.config v p m m'
  off_none it v p at off on = absurd (let is : is_unsure unsure v ≡ true = subst (λ (w : ℕ). is_unsure unsure w ≡ true) (sym at) on in let clash : true ≡ false = sym is ∙ off in cc)

  pub left_back : GivenBack core (with_unsure core unsure) m m'
  left_back = record {
    stands = unsure_Stands core unsure m' stands;
    parts = same_parts core;
    quiesces = stepped core core (with_unsure core unsure) NoVolume m m' narrows refl refl (inl refl) (or_marked error vol core.unsure unsure m m' marks why) (sure_marked error vol core.unsure unsure marks) (λ v p none. absurd none)
        (loses_same core.config m m');
  }

  pub left_on : is_unsure unsure vol ≡ true → (IsTrue m'.down → ⊥) → Quiesced core (with_unsure core unsure) (is_volume vol) m m'
  left_on on up = record {
    stands = unsure_Stands core unsure m' stands;
    quiesces = stepped core core (with_unsure core unsure) (is_volume vol) m m' narrows refl refl (inl refl) (or_marked error vol core.unsure unsure m m' marks why) (sure_marked error vol core.unsure unsure marks)
        (λ v p at off is_on. off_none marks v p at off on) (loses_same core.config m m');
    parts = same_parts core;
    trust = λ is. is;
    settled = settled;
    up = up;
    more = more;
  }

pub unsure_ends : (core : Inner) (vol : ℕ) (m m' : Meaning) → InnerStands core m' → Narrows core core m m' → core.unsettled ≡ false → core.config.serial < greatest → (error : ShelfError) (unsure : List Bool) (r : Result (Unit {0}) ShelfError)
    → MarksUnsure error vol core.unsure unsure → GoesOnBy error r → Blames {T = Unit {0}} m m' (Err error) → QuiesceEnds (is_volume vol) core (with_unsure core unsure) m m' r
unsure_ends core vol m m' stands narrows settled more (Fault disk) unsure (Ok x) marks on why = left_on core vol m m' stands narrows settled more (Fault disk) unsure marks why marks.here why.1
unsure_ends core vol m m' stands narrows settled more (Fault disk) unsure (Err error) marks on why = absurd on
unsure_ends core vol m m' stands narrows settled more Down unsure (Ok x) marks on why = absurd on
unsure_ends core vol m m' stands narrows settled more Down unsure (Err (Fault disk)) marks on why = absurd on
unsure_ends core vol m m' stands narrows settled more Down unsure (Err Down) marks on why = left_back core vol m m' stands narrows settled more Down unsure marks why

pub unsure_blames : (m m' : Meaning) (error : ShelfError) (r : Result (Unit {0}) ShelfError) → GoesOnBy error r → Blames {T = Unit {0}} m m' (Err error) → Blames m m' r
unsure_blames m m' (Fault disk) (Ok x) on why = why.1
unsure_blames m m' (Fault disk) (Err error) on why = absurd on
unsure_blames m m' Down (Ok x) on why = absurd on
unsure_blames m m' Down (Err (Fault disk)) on why = absurd on
unsure_blames m m' Down (Err Down) on why = why

-- no plex failed, or those that failed were detached
module _ (core d : Inner) (vol : ℕ) (m m' : Meaning) (stands : InnerStands d m') (narrows : Narrows core d m m') (volumes : (d.config.volumes ≡ core.config.volumes) ⊎ AnyFailed m m') (loses : LosesPlexes core.config d.config m m') where
  sure_as : (v : ℕ) → is_unsure d.unsure v ≡ false → is_unsure core.unsure v ≡ false
  sure_as v is = ap (λ (u : List Bool). is_unsure u v) (sym narrows.unsure) ∙ is

  pub one_on : AllFlushed d.config vol m m' → SameParts core.config d.config → (core.committed ≡ true → d.committed ≡ true) → d.unsettled ≡ false → (IsTrue m'.down → ⊥) → d.config.serial < greatest → Quiesced core d (is_volume vol) m m'
  one_on all parts trust settled up more = record {
    stands = stands;
    quiesces = stepped core d d (is_volume vol) m m' narrows refl refl volumes (inl narrows.unsure) sure_as (flushed_one core d d vol m m' narrows all) loses;
    parts = parts;
    trust = trust;
    settled = settled;
    up = up;
    more = more;
  }

  pub one_back : SameParts core.config d.config → GivenBack core d m m'
  one_back parts = record { stands = stands; parts = parts; quiesces = stepped core d d NoVolume m m' narrows refl refl volumes (inl narrows.unsure) sure_as (λ v p none. absurd none) loses }

  -- the commit was refused
  pub missed_back : (error : ShelfError) (unsure : List Bool) → MarksUnsure error vol d.unsure unsure → AnyFailed m m' → SameParts core.config d.config → GivenBack core (with_unsure d unsure) m m'
  missed_back error unsure marks rose parts = record {
    stands = unsure_Stands d unsure m' stands;
    parts = parts;
    quiesces = stepped core d (with_unsure d unsure) NoVolume m m' narrows refl refl volumes (inr rose) (λ v is. sure_as v (sure_marked error vol d.unsure unsure marks v is)) (λ v p none. absurd none) loses;
  }

-- ---- the loop

pub none_quiesced : (core : Inner) (m : Meaning) → InnerStands core m → core.unsettled ≡ false → (IsTrue m.down → ⊥) → core.config.serial < greatest → Quiesced core core (λ (v : ℕ). v < 0) m m
none_quiesced core m stands settled up more = record {
  stands = stands;
  quiesces = stepped core core core (λ (v : ℕ). v < 0) m m (no_commit core m) refl refl (inl refl) (inl refl) (λ v is. is) (λ v p lt. absurd (omega (arith, lt))) (loses_same core.config m m);
  parts = same_parts core;
  trust = λ is. is;
  settled = settled;
  up = up;
  more = more;
}

below_next : (n v : ℕ) → v < n + 1 → (v < n) ⊎ (v ≡ n)
below_next n v lt = elim (cases_lt v n) [ inl less ↦ inl less | inr le ↦ inr (omega (arith, lt, le)) ]

module _ (core d e : Inner) (n : ℕ) (m0 m1 m2 : Meaning) (begun : InnerStands core m0) (was : Quiesced core d (λ (v : ℕ). v < n) m0 m1) where
  pub one_more : Quiesced d e (is_volume n) m1 m2 → Quiesced core e (λ (v : ℕ). v < n + 1) m0 m2
  one_more now = record {
    stands = now.stands;
    quiesces = both_quiesce core d e (λ (v : ℕ). v < n) (is_volume n) (λ (v : ℕ). v < n + 1) m0 m1 m2 (apart_of_core core m0 begun) was.quiesces now.quiesces was.up (below_next n);
    parts = both_parts core d e was.parts now.parts;
    trust = λ is. now.trust (was.trust is);
    settled = now.settled;
    up = now.up;
    more = now.more;
  }

  pub one_less : GivenBack d e m1 m2 → GivenBack core e m0 m2
  one_less now = record {
    stands = now.stands;
    parts = both_parts core d e was.parts now.parts;
    quiesces = both_quiesce core d e (λ (v : ℕ). v < n) NoVolume NoVolume m0 m1 m2 (apart_of_core core m0 begun) was.quiesces now.quiesces was.up (λ v none. inr none);
  }

pub all_quiesced : (core e : Inner) (n : ℕ) (m m' : Meaning) → length core.config.volumes ≤ n → Quiesced core e (λ (v : ℕ). v < n) m m' → Quiesced core e (IsVolumeOf core) m m'
all_quiesced core e n m m' le was = record {
  stands = was.stands;
  quiesces = record {
    acts = was.quiesces.acts;
    shape = was.quiesces.shape;
    on = was.quiesces.on;
    volumes = was.quiesces.volumes;
    unsure = was.quiesces.unsure;
    loses = was.quiesces.loses;
    sure = was.quiesces.sure;
    faults = was.quiesces.faults;
    flushed = λ v p lt sure is_on. was.quiesces.flushed v p (omega (arith, lt, le)) sure is_on;
  };
  parts = was.parts;
  trust = was.trust;
  settled = was.settled;
  up = was.up;
  more = was.more;
}

-- no call at all
pub still_back : (core : Inner) (m : Meaning) → InnerStands core m → GivenBack core core m m
still_back core m stands = record { stands = stands; parts = same_parts core; quiesces = quiet core core m m (no_commit core m) refl (no_failing m m core.config.disks core.config.disks refl) (same_parts core) }
