-- Calls of a group behind the commit that detaches the plex that is held back.
use Rattle.std.proofs.Common.{Err, IsTrue, List, [], ◌∷◌, zero, suc, ◌<◌, None, Ok, Option, Result, Some, ap, arith, false, inl, inr, length, refl, subst, sym, true, ℕ, ⊎_elim, ◌∙◌, ◌⊎◌, ◌≡◌, ◌≤◌}
use Rattle.vx_disk.specs.Causes.{Cause}
use Rattle.vx_disk.specs.Counts.{Rose}
use Rattle.vx_disk.specs.Shelf.{Goes, Lawful, Meaning, Nothing, Or, Values}
use Rattle.vx_disk.specs.declared.shelf.ShelfError.{ShelfError}
use Rattle.vx_disk.specs.declared.shelf.ShelfError.TheVariants.{Fault, Down}
use Rattle.vx_disk.proofs.Causing.{Rose_after, Rose_before}
use Rattle.vx_disk.proofs.Runs.{nothing_then}
use Rattle.vx_model.specs.declared.site.PlexState.TheVariants.{Active, Stale}
use Rattle.vx_config.specs.declared.config.Config.{Config}
use Rattle.vx_config.specs.declared.entry.DiskEntry.{DiskEntry}
use Rattle.vx_copies.specs.Commits.{MoreFailed}
use Rattle.vx_copies.specs.Marks.{failed_at}
use Rattle.vx_copies.proofs.OneTry.{held_or}
use Rattle.vx_fmr.specs.Missed.{Missed}
use Rattle.vx_layout.specs.Places.{plex_at}
use Rattle.vx_volume.specs.Plexes.{SomeActive, active, active_or, uses}
use Rattle.vx_volume.specs.Volumes.{PlexBlamed}
use Rattle.vx_kept.specs.Commits.{Member}
use Rattle.vx_kept.specs.Keeping.{Acts, SameShape, Sees, frame_at}
use Rattle.vx_kept.specs.States.{whole_of}
use Rattle.vx_kept.proofs.Chosen.{active_volumes, alike_shape, frames_volumes}
use Rattle.vx_kept.proofs.StateLemmas.{active_apart, active_off, there_of, same_shape, stated_shape, then_shape}
use Rattle.vx_kept.proofs.Steps.{both_Acts, wide_Acts}
use Rattle.vx_group.specs.Attaches.{AnyImage, Attaches, HasOther, OnMissed}
use Rattle.vx_group.specs.Calls.{GroupAttaches, GroupNarrows, members_by}
use Rattle.vx_group.specs.Copying.{NoMember}
use Rattle.vx_group.specs.Dets.{any_below, is_other}
use Rattle.vx_config.specs.Checks.{plexes_of}
use Rattle.std.specs.Prelude.{slice_get}
use Rattle.vx_resync.proofs.CauseLemmas.{blamed_since}
use Rattle.vx_group.specs.GivesUp.{EachBlamed, GivesUp}
use Rattle.vx_group.specs.Holding.{active_at, GroupStands, HeldAgain, HeldBack, config_by, wide}
use Rattle.vx_group.specs.Loses.{AnyBlamed, LosesPlexes, SameParts}
use Rattle.vx_group.specs.Moves.{Narrows}
use Rattle.vx_group.specs.Regains.{HoldsPlex, Regains}
use Rattle.vx_group.specs.Stands.{InnerStands, volume_faults, inner_meaning}
use Rattle.vx_group.specs.declared.group_core.GroupCore.{GroupCore}
use Rattle.vx_group.specs.declared.group_core.Held.{Held}
use Rattle.vx_group.specs.declared.inner.Inner.{Inner}
use Rattle.vx_group.proofs.AttachLemmas.{any_acts, has_other, on_back}
use Rattle.vx_group.proofs.CallLemmas.{narrows_Goes}
use Rattle.vx_group.proofs.CopyLemmas.{loose_Acts, sees_none, sees_wider}
use Rattle.vx_group.proofs.FailingLemmas.{then_failing}
use Rattle.vx_group.proofs.HoldLemmas.{any_of, narrow_some, back_Stands, back_others, back_wide, e_volumes, narrow_wider, none_Stands, wide_none}
use Rattle.vx_group.proofs.OpeningLemmas.{here_or_apart}
use Rattle.vx_group.proofs.UsesLemmas.{blamed_by, uses_stated, uses_volumes}
use Rattle.vx_group.proofs.LoseLemmas.{then_parts}

there_less : {A : Type 0} (xs : List A) (k : ℕ) (x : A) → slice_get xs k ≡ Some x → k < length xs
there_less [] k x is = absurd (let no_one : None ≡ Some x = is in cc)
there_less (y ∷ xs) zero x is = omega arith
there_less (y ∷ xs) (suc k) x is = let lt = there_less xs k x is in omega (arith, lt)

-- ---- the commit itself

-- which disks suffice is not asked, where a plex is held back
loose_by : (o : Option Held) (c : Config) (good : ℕ) (m m' : Meaning) → Acts Nothing (Sees c (Member good m) m) m m' → Acts Nothing (Sees c (members_by o good m) m) m m'
loose_by None c good m m' acts = acts
loose_by (Some h) c good m m' acts = loose_Acts Nothing (Sees c (Member good m) m) (Sees c NoMember m) m m' acts (λ i sees. sees_none c (Member good m) m i sees)

-- two commits in a row, of which the second one goes by other disks
two_Acts : (c d e : Inner) (m m1 m2 : Meaning) → Narrows c d m m1 → Narrows d e m1 m2 → Acts Nothing (Sees c.config NoMember m) m m2
two_Acts c d e m m1 m2 one two = wide_Acts (Or Nothing Nothing) Nothing (Sees c.config NoMember m) m m2
    (both_Acts Nothing Nothing (Sees c.config NoMember m) (Sees d.config NoMember m1) m m1 m2
    (loose_Acts Nothing (Sees c.config (Member c.good m) m) (Sees c.config NoMember m) m m1 one.acts (λ i sees. sees_none c.config (Member c.good m) m i sees))
    (loose_Acts Nothing (Sees d.config (Member d.good m1) m1) (Sees d.config NoMember m1) m1 m2 two.acts (λ i sees. sees_none d.config (Member d.good m1) m1 i sees))
    (λ i sees. sees_wider c.config d.config NoMember m m1 one.shape one.on one.acts.units one.acts.size i sees))
    (λ u b x. ⊎_elim (λ none. none) (λ none. none))

module _ (c0 mid : GroupCore) (m m1 : Meaning) (stands : GroupStands c0 m) (narrows : Narrows (wide c0) (wide mid) m m1) (volumes : mid.inner.config.volumes ≡ c0.inner.config.volumes) where
  pub released_goes : Lawful m1 → Goes Nothing (inner_meaning (wide c0) m) (inner_meaning (wide mid) m1)
  released_goes lawful = narrows_Goes (wide c0) (wide mid) m m1 lawful stands.stands narrows (volume_faults c0.inner.faults) (volume_faults mid.inner.faults) (λ u. let same = ap (λ (f : List ℕ). volume_faults f u) narrows.faults in omega (arith, same))

  pub released_active : (w q : ℕ) → active mid.inner.config w q ≡ active c0.inner.config w q
  released_active w q = active_volumes mid.inner.config c0.inner.config volumes w q

  pub released_shape : SameShape mid.inner.config c0.inner.config
  released_shape = alike_shape mid.inner.config c0.inner.config c0.inner.config volumes (same_shape c0.inner.config)

  pub released_narrows : GroupNarrows c0 mid m m1
  released_narrows = record {
    acts = loose_by c0.held (wide c0).config c0.inner.good m m1 narrows.acts;
    shape = released_shape;
    on = λ w q is. sym (released_active w q) ∙ is;
    wide_on = narrows.on;
    faults = narrows.faults;
    unsure = narrows.unsure;
  }

-- ---- a commit behind it

module _ {T : Type 0} (meaning : T → Meaning) (s s1 : T) (c0 mid : GroupCore) (d : Inner) (m2 : Meaning) (stands : GroupStands c0 (meaning s)) (narrows : Narrows (wide c0) (wide mid) (meaning s) (meaning s1))
    (volumes : mid.inner.config.volumes ≡ c0.inner.config.volumes) (whole : c0.held ≡ None → (mid ≡ c0) × (s1 ≡ s)) (none : mid.held ≡ None) (second : Narrows mid.inner d (meaning s1) m2) where
  abbrev new : GroupCore
  new = record { inner = d; held = mid.held }

  wide_second : Narrows (wide mid) d (meaning s1) m2
  wide_second = subst (λ (i : Inner). Narrows i d (meaning s1) m2) (sym (wide_none mid none)) second

  by_acts : (o : Option Held) → c0.held ≡ o → Acts Nothing (Sees (config_by o c0.inner.config) (members_by o c0.inner.good (meaning s)) (meaning s)) (meaning s) m2
  by_acts None is =
      let same = whole is in
      let at : Narrows mid.inner d (meaning s) m2 = subst (λ (t : T). Narrows mid.inner d (meaning t) m2) same.1 second in
      (subst (λ (k : GroupCore). Narrows k.inner d (meaning s) m2) same.0 at).acts
  by_acts (Some h) is =
      subst (λ (o : Option Held). Acts Nothing (Sees (config_by o c0.inner.config) NoMember (meaning s)) (meaning s) m2) is (two_Acts (wide c0) (wide mid) d (meaning s) (meaning s1) m2 narrows wide_second)

  pub second_narrows : GroupNarrows c0 new (meaning s) m2
  second_narrows = record {
    acts = by_acts c0.held refl;
    shape = then_shape d.config mid.inner.config c0.inner.config second.shape (released_shape c0 mid (meaning s) (meaning s1) stands narrows volumes);
    on = λ w q is. sym (released_active c0 mid (meaning s) (meaning s1) stands narrows volumes w q) ∙ second.on w q is;
    wide_on = λ w q is. narrows.on w q (ap (λ (i : Inner). active i.config w q) (wide_none mid none) ∙ second.on w q (ap (λ (i : Inner). active i.config w q) (sym (wide_none new none)) ∙ is));
    faults = second.faults ∙ narrows.faults;
    unsure = second.unsure ∙ narrows.unsure;
  }

-- ---- a call behind it

module _ (c0 mid new : GroupCore) (x e : Inner) (m m1 m2 : Meaning) (x_is : x ≡ wide mid) (e_is : wide new ≡ e) where
  pub through_goes : (W : Values) → Goes Nothing (inner_meaning (wide c0) m) (inner_meaning (wide mid) m1) → Goes W (inner_meaning x m1) (inner_meaning e m2) → Goes W (inner_meaning (wide c0) m) (inner_meaning (wide new) m2)
  through_goes W released goes =
      subst (λ (i : Inner). Goes W (inner_meaning (wide c0) m) (inner_meaning i m2)) (sym e_is)
      (nothing_then W (inner_meaning (wide c0) m) (inner_meaning (wide mid) m1) (inner_meaning e m2) released (subst (λ (i : Inner). Goes W (inner_meaning i m1) (inner_meaning e m2)) x_is goes))

  -- what an answered call is told to have done
  pub through_ok : (IsTrue m1.down → ⊥) → Goes Nothing (inner_meaning (wide c0) m) (inner_meaning (wide mid) m1) → (P : Meaning → Meaning → Type 0)
      → ((a b d : Meaning) → Goes Nothing a b → (IsTrue b.down → ⊥) → P b d → P a d) → P (inner_meaning x m1) (inner_meaning e m2) → P (inner_meaning (wide c0) m) (inner_meaning (wide new) m2)
  through_ok up1 released P later done =
      subst (λ (i : Inner). P (inner_meaning (wide c0) m) (inner_meaning i m2)) (sym e_is)
      (later (inner_meaning (wide c0) m) (inner_meaning (wide mid) m1) (inner_meaning e m2) released up1 (subst (λ (i : Inner). P (inner_meaning i m1) (inner_meaning e m2)) x_is done))

  module _ (narrows : Narrows (wide c0) (wide mid) m m1) (up : IsTrue m.down → ⊥) where
    x_faults : x.faults ≡ c0.inner.faults
    x_faults = ap (λ (i : Inner). i.faults) x_is ∙ narrows.faults

    e_faults : e.faults ≡ new.inner.faults
    e_faults = sym (ap (λ (i : Inner). i.faults) e_is)

    pub through_cause : {T : Type 0} (v : ℕ) (r : Result T ShelfError) → Cause (inner_meaning x m1) (inner_meaning e m2) v r → Cause (inner_meaning (wide c0) m) (inner_meaning (wide new) m2) v r
    through_cause v (Ok y) cause = record { before = up; after = cause.after }
    through_cause v (Err (Fault disk)) cause = (
      record {
        count = subst (λ (f : List ℕ). Rose (volume_faults c0.inner.faults v) (volume_faults f v)) e_faults (subst (λ (f : List ℕ). Rose (volume_faults f v) (volume_faults e.faults v)) x_faults (cause.0).count);
        disk_count = Rose_before (m.disk_faults disk) (m1.disk_faults disk) (m2.disk_faults disk) (narrows.acts.disk_faults disk) (cause.0).disk_count;
      },
      record { before = up; after = (cause.1).after },
    )
    through_cause v (Err Down) down = down

-- ---- the plex that is held back again

again_wide : (o : Option Held) (c2 c3 : GroupCore) → c2.held ≡ None → HeldAgain o c2 c3 → wide c3 ≡ c2.inner
again_wide None c2 c3 none same = ap wide same ∙ wide_none c2 none
again_wide (Some h) c2 c3 none back = back_wide h.vol h.plex c2 c3 none back

again_Stands : (o : Option Held) (c2 c3 : GroupCore) (m : Meaning) → c2.held ≡ None → HeldAgain o c2 c3 → InnerStands c2.inner m → GroupStands c3 m
again_Stands None c2 c3 m none same stands = subst (λ (k : GroupCore). GroupStands k m) (sym same) (none_Stands c2 m none stands)
again_Stands (Some h) c2 c3 m none back stands = back_Stands h.vol h.plex c2 c3 none back m stands

pub again_none : (o : Option Held) (c2 c3 : GroupCore) → o ≡ None → c2.held ≡ None → HeldAgain o c2 c3 → c3.held ≡ None
again_none None c2 c3 is none same = ap (λ (k : GroupCore). k.held) same ∙ none
again_none (Some h) c2 c3 is none back = absurd (let no_one : Some h ≡ None = is in cc)

pub by_uses : (o : Option Held) (c : Config) (w q u : ℕ) → uses (config_by o c) w q u ≡ uses c w q u
by_uses None c w q u = refl
by_uses (Some h) c w q u = uses_stated h.vol h.plex Active (whole_of c h.vol h.plex) c w q u

back_uses : (v p : ℕ) (c2 c3 : GroupCore) → HeldBack v p c2 c3 → (w q u : ℕ) → uses c3.inner.config w q u ≡ uses c2.inner.config w q u
back_uses v p c2 c3 (inl same) w q u = ap (λ (k : GroupCore). uses k.inner.config w q u) same.0
back_uses v p c2 c3 (inr it) w q u = ap (λ (k : GroupCore). uses k.inner.config w q u) it.0 ∙ uses_stated v p Stale (whole_of c2.inner.config v p) c2.inner.config w q u

again_uses : (o : Option Held) (c2 c3 : GroupCore) → HeldAgain o c2 c3 → (w q u : ℕ) → uses c3.inner.config w q u ≡ uses c2.inner.config w q u
again_uses None c2 c3 same w q u = ap (λ (k : GroupCore). uses k.inner.config w q u) same
again_uses (Some h) c2 c3 back w q u = back_uses h.vol h.plex c2 c3 back w q u

by_frames : (o : Option Held) (c : Config) (w : ℕ) → frame_at (config_by o c) w ≡ frame_at c w
by_frames None c w = refl
by_frames (Some h) c w = (stated_shape h.vol h.plex Active (whole_of c h.vol h.plex) c).frames w

back_frames : (v p : ℕ) (c2 c3 : GroupCore) → HeldBack v p c2 c3 → (w : ℕ) → frame_at c3.inner.config w ≡ frame_at c2.inner.config w
back_frames v p c2 c3 (inl same) w = ap (λ (k : GroupCore). frame_at k.inner.config w) same.0
back_frames v p c2 c3 (inr it) w = ap (λ (k : GroupCore). frame_at k.inner.config w) it.0 ∙ (stated_shape v p Stale (whole_of c2.inner.config v p) c2.inner.config).frames w

again_frames : (o : Option Held) (c2 c3 : GroupCore) → HeldAgain o c2 c3 → (w : ℕ) → frame_at c3.inner.config w ≡ frame_at c2.inner.config w
again_frames None c2 c3 same w = ap (λ (k : GroupCore). frame_at k.inner.config w) same
again_frames (Some h) c2 c3 back w = back_frames h.vol h.plex c2 c3 back w

module _ (c0 mid c2 new : GroupCore) (x : Inner) (m m1 m2 : Meaning) (stands : GroupStands c0 m) (mid_stands : GroupStands mid m1) (narrows : Narrows (wide c0) (wide mid) m m1) (volumes : mid.inner.config.volumes ≡ c0.inner.config.volumes)
    (o : Option Held) (held : o ≡ mid.held) (x_is : x ≡ wide mid) (none : c2.held ≡ None) (again : HeldAgain o c2 new) where
  pub new_wide : wide new ≡ c2.inner
  new_wide = again_wide o c2 new none again

  pub new_Stands : InnerStands c2.inner m2 → GroupStands new m2
  new_Stands it = again_Stands o c2 new m2 none again it

  -- no state changed
  pub by_volumes : (k : Option Held) → o ≡ k → HeldAgain k c2 new → c2.inner.config.volumes ≡ x.config.volumes → new.inner.config.volumes ≡ mid.inner.config.volumes
  by_volumes None is same kept = ap (λ (g : GroupCore). g.inner.config.volumes) same ∙ kept ∙ ap (λ (i : Inner). i.config.volumes) x_is ∙ ap (λ (i : Inner). i.config.volumes) (wide_none mid (sym held ∙ is))
  by_volumes (Some h) is back kept =
      e_volumes mid h m1 mid_stands (sym held ∙ is) x x_is c2.inner (λ w q apart. active_volumes c2.inner.config x.config kept w q) c2 new refl none back (inl kept)

  new_volumes : c2.inner.config.volumes ≡ x.config.volumes → new.inner.config.volumes ≡ c0.inner.config.volumes
  new_volumes kept = by_volumes o refl again kept ∙ volumes

  -- a plex that was ACTIVE in memory, and is so on the disks
  by_active : (k : Option Held) → o ≡ k → HeldAgain k c2 new → (w q : ℕ) → IsTrue (active mid.inner.config w q) → IsTrue (active c2.inner.config w q) → IsTrue (active new.inner.config w q)
  by_active None is same w q was on = ap (λ (g : GroupCore). active g.inner.config w q) same ∙ on
  by_active (Some h) is back w q was on = elim (here_or_apart w h.vol q h.plex) [
    | inl here ↦ absurd (let off = (mid_stands.held h (sym held ∙ is)).off in
        let no_one : false ≡ true = sym off ∙ subst (λ (y : ℕ). IsTrue (active mid.inner.config y h.plex)) here.0 (subst (λ (r : ℕ). IsTrue (active mid.inner.config w r)) here.1 was) in cc)
    | inr apart ↦ back_others h.vol h.plex c2 new none back w q apart ∙ on
  ]

  mid_on : (w q : ℕ) → IsTrue (active c0.inner.config w q) → IsTrue (active mid.inner.config w q)
  mid_on w q is = active_volumes mid.inner.config c0.inner.config volumes w q ∙ is

  to_x : (w q : ℕ) → IsTrue (active c0.inner.config w q) → IsTrue (active x.config w q)
  to_x w q is = ap (λ (i : Inner). active i.config w q) x_is ∙ narrow_wider mid m1 mid_stands w q (mid_on w q is)

  x_uses : (w q u : ℕ) → uses x.config w q u ≡ uses c0.inner.config w q u
  x_uses w q u = ap (λ (i : Inner). uses i.config w q u) x_is ∙ by_uses mid.held mid.inner.config w q u ∙ uses_volumes c0.inner.config mid.inner.config volumes w q u

  blamed_first : (w q : ℕ) → PlexBlamed x.config w q m1 m2 → PlexBlamed c0.inner.config w q m m2
  blamed_first w q blamed = blamed_since c0.inner.config w q m m1 m2 narrows.acts.faults (blamed_by c0.inner.config x.config w q m1 m2 (x_uses w q) blamed)

  -- a plex that is ACTIVE was so, or it is the one that was held back, and another one of its volume failed
  held_vol : (h : Held) → mid.held ≡ Some h → h.vol < length mid.inner.config.volumes
  held_vol h is =
      let t = there_of (active_at h.vol h.plex mid.inner.config) h.vol h.plex (mid_stands.held h is).is_on in
      let lt : h.vol < length (active_at h.vol h.plex mid.inner.config).volumes = there_less (active_at h.vol h.plex mid.inner.config).volumes h.vol t.volume t.at_v in
      let count = (stated_shape h.vol h.plex Active (whole_of mid.inner.config h.vol h.plex) mid.inner.config).volumes in
      omega (arith, lt, count)

  from_none : o ≡ None → (w q : ℕ) → IsTrue (active x.config w q) → IsTrue (active c0.inner.config w q)
  from_none is w q on = sym (active_volumes mid.inner.config c0.inner.config volumes w q) ∙ sym (ap (λ (i : Inner). active i.config w q) (x_is ∙ wide_none mid (sym held ∙ is))) ∙ on

  from_some : (h : Held) → o ≡ Some h → (w q : ℕ) → (w ≡ h.vol → q ≡ h.plex → ⊥) → IsTrue (active x.config w q) → IsTrue (active c0.inner.config w q)
  from_some h is w q apart on =
      sym (active_volumes mid.inner.config c0.inner.config volumes w q)
      ∙ sym (active_apart h.vol h.plex Active (whole_of mid.inner.config h.vol h.plex) mid.inner.config w q apart)
      ∙ sym (ap (λ (i : Inner). active i.config w q) x_is ∙ ap (λ (k : Option Held). active (config_by k mid.inner.config) w q) (sym held ∙ is)) ∙ on

  back_on : (w q : ℕ) → (IsTrue (active x.config w q) → IsTrue (active c0.inner.config w q)) → IsTrue (active x.config w q) ⊎ AnyBlamed x.config w m1 m2 → IsTrue (active c0.inner.config w q) ⊎ AnyBlamed c0.inner.config w m m2
  back_on w q from (inl on) = inl (from on)
  back_on w q from (inr any) = inr (any.0, blamed_first w any.0 any.1)

  last_one : (h : Held) → mid.held ≡ Some h → HeldBack h.vol h.plex c2 new → LosesPlexes x.config c2.inner.config m1 m2 → IsTrue (active new.inner.config h.vol h.plex) → AnyBlamed c0.inner.config h.vol m m2
  last_one h is (inl same) loses on =
      let alone : any_below (is_other c2.inner.config h.vol h.plex) (plexes_of c2.inner.config h.vol) ≡ false = same.1 (sym (ap (λ (g : GroupCore). active g.inner.config h.vol h.plex) same.0) ∙ on) in
      let some : SomeActive mid.inner.config h.vol = narrow_some mid m1 mid_stands h.vol (held_vol h is) in
      elim (loses.plexes h.vol some.plex (ap (λ (i : Inner). active i.config h.vol some.plex) x_is ∙ narrow_wider mid m1 mid_stands h.vol some.plex some.is_on)) [
        | inl still ↦ absurd (
            let other : HasOther c2.inner.config h.vol h.plex = record {
              plex = some.plex;
              is_on = still;
              apart = λ e. (let off : active mid.inner.config h.vol h.plex ≡ false = (mid_stands.held h is).off in
                  let no_one : false ≡ true = sym off ∙ subst (λ (r : ℕ). IsTrue (active mid.inner.config h.vol r)) e some.is_on in absurd cc);
            } in
            let no_one : true ≡ false = sym (any_of c2.inner.config h.vol h.plex other) ∙ alone in cc)
        | inr blamed ↦ (some.plex, blamed_first h.vol some.plex blamed)
      ]
  last_one h is (inr it) loses on = absurd (
      let no_one : false ≡ true = sym (active_off h.vol h.plex c2.inner.config) ∙ sym (ap (λ (g : GroupCore). active g.inner.config h.vol h.plex) it.0) ∙ on in cc)

  last_on : (k : Option Held) → o ≡ k → HeldAgain k c2 new → LosesPlexes x.config c2.inner.config m1 m2 → (w q : ℕ) → IsTrue (active new.inner.config w q) → IsTrue (active c0.inner.config w q) ⊎ AnyBlamed c0.inner.config w m m2
  last_on None is same loses w q on = back_on w q (from_none is w q) (loses.on w q (sym (ap (λ (g : GroupCore). active g.inner.config w q) same) ∙ on))
  last_on (Some h) is back loses w q on = elim (here_or_apart w h.vol q h.plex) [
    | inl here ↦ inr (subst (λ (y : ℕ). AnyBlamed c0.inner.config y m m2) (sym here.0) (last_one h (sym held ∙ is) back loses
        (subst (λ (y : ℕ). IsTrue (active new.inner.config y h.plex)) here.0 (subst (λ (r : ℕ). IsTrue (active new.inner.config w r)) here.1 on))))
    | inr apart ↦ back_on w q (from_some h is w q apart) (loses.on w q (sym (back_others h.vol h.plex c2 new none back w q apart) ∙ on))
  ]

  pub through_gives : {T : Type 0} (v : ℕ) (r : Result T ShelfError) → GivesUp v x c2.inner m1 m2 r → GivesUp v c0.inner new.inner m m2 r
  through_gives v (Ok y) gives = tt
  through_gives v (Err (Fault disk)) gives = (
    new_volumes gives.0,
    ⊎_elim (λ (each : EachBlamed x.config v m1 m2). inl (record { each = λ q is_on. blamed_first v q (each.each q (to_x v q is_on)) })) (λ un. inr (ap (λ (i : Inner). i.unsettled) new_wide ∙ un)) gives.1,
  )
  through_gives v (Err Down) gives = tt

  pub through_loses : ((u : ℕ) → m1.faults u ≤ m2.faults u) → MoreFailed m m1 c0.inner.config.disks mid.inner.config.disks → SameParts c0.inner.config mid.inner.config → LosesPlexes x.config c2.inner.config m1 m2 → LosesPlexes c0.inner.config new.inner.config m m2
  through_loses later failing parts loses = record {
    parts = record {
      site = ap (λ (i : Inner). i.config.site) new_wide ∙ loses.parts.site ∙ ap (λ (i : Inner). i.config.site) x_is ∙ parts.site;
      rvg = ap (λ (i : Inner). i.config.rvg) new_wide ∙ loses.parts.rvg ∙ ap (λ (i : Inner). i.config.rvg) x_is ∙ parts.rvg;
      count = ap (λ (i : Inner). length i.config.disks) new_wide ∙ loses.parts.count ∙ ap (λ (i : Inner). length i.config.disks) x_is ∙ parts.count;
      later =
          let one : c0.inner.config.serial ≤ mid.inner.config.serial = parts.later in
          let two : x.config.serial ≡ mid.inner.config.serial = ap (λ (i : Inner). i.config.serial) x_is in
          let three : x.config.serial ≤ c2.inner.config.serial = loses.parts.later in
          let four : new.inner.config.serial ≡ c2.inner.config.serial = ap (λ (i : Inner). i.config.serial) new_wide in
          omega (arith, one, two, three, four);
    };
    frames = λ w. again_frames o c2 new again w ∙ loses.frames w ∙ ap (λ (i : Inner). frame_at i.config w) x_is ∙ by_frames mid.held mid.inner.config w ∙ frames_volumes mid.inner.config c0.inner.config volumes w;
    lies = λ w q u. again_uses o c2 new again w q u ∙ loses.lies w q u ∙ x_uses w q u;
    on = last_on o refl again loses;
    plexes = λ w q is. elim (loses.plexes w q (to_x w q is)) [
      | inl on ↦ inl (by_active o refl again w q (mid_on w q is) on)
      | inr blamed ↦ inr (blamed_first w q blamed)
    ];
    disks = then_failing m m1 m2 narrows.acts.faults later c0.inner.config.disks mid.inner.config.disks new.inner.config.disks failing
        (subst (λ (ds : List DiskEntry). MoreFailed m1 m2 mid.inner.config.disks ds) (sym (ap (λ (i : Inner). i.config.disks) new_wide))
        (subst (λ (ds : List DiskEntry). MoreFailed m1 m2 ds c2.inner.config.disks) (ap (λ (i : Inner). i.config.disks) x_is) loses.disks));
  }

-- plexes stay as they are where none is held back
pub through_still : (c0 mid c2 new : GroupCore) (x : Inner) (o : Option Held) → c0.held ≡ None → mid ≡ c0 → o ≡ mid.held → x ≡ wide mid → HeldAgain o c2 new → ((w p : ℕ) → plex_at c2.inner.config w p ≡ plex_at x.config w p)
    → (w p : ℕ) → active new.inner.config w p ≡ active c0.inner.config w p
unfolding active
through_still c0 mid c2 new x None none same held x_is again plexes w p =
    ap (λ (k : GroupCore). active k.inner.config w p) again ∙ ap active_or (plexes w p) ∙ ap (λ (i : Inner). active i.config w p) (x_is ∙ wide_none mid (sym held)) ∙ ap (λ (k : GroupCore). active k.inner.config w p) same
through_still c0 mid c2 new x (Some h) none same held x_is again plexes w p = absurd (let clash : Some h ≡ None = held ∙ ap (λ (k : GroupCore). k.held) same ∙ none in cc)

-- ---- an attach behind it

-- a disk that is held as failed stays so in a commit
first_regains : (m m1 m2 : Meaning) → ((u : ℕ) → m.faults u ≤ m1.faults u) → ((u : ℕ) → m1.faults u ≤ m2.faults u) → (c mid d e : Config) (v p : ℕ) → mid.volumes ≡ c.volumes → MoreFailed m m1 c.disks mid.disks → e.disks ≡ d.disks
    → Regains mid d v p m1 m2 → Regains c e v p m m2
first_regains m m1 m2 one two c mid d e v p volumes failing disks regains = record {
  blamed = λ u was is. elim (held_or mid.disks u) [
    | inl good ↦ Rose_before (m.faults u) (m1.faults u) (m2.faults u) (one u) (regains.blamed u good (sym (ap (λ (ds : List DiskEntry). failed_at ds u) disks) ∙ is))
    | inr failed ↦ Rose_after (m.faults u) (m1.faults u) (m2.faults u) (failing.blamed u was failed) (two u)
  ];
  others = λ u was off. ap (λ (ds : List DiskEntry). failed_at ds u) disks ∙ regains.others u (failing.stays u was) (uses_volumes c mid volumes v p u ∙ off);
}

pub holds_first : {T : Type 0} (meaning : T → Meaning) (m m1 : Meaning) (c mid d : Config) (v p : ℕ) (last : T) → mid.volumes ≡ c.volumes → MoreFailed m m1 c.disks mid.disks → HoldsPlex meaning mid d v p last → HoldsPlex meaning c d v p last
holds_first meaning m m1 c mid d v p last volumes failing it = record {
  moment = it.moment;
  config = it.config;
  volumes = it.volumes ∙ volumes;
  now = record {
    held = it.now.held;
    committed = λ on. it.now.committed (record { disk = on.disk; lies = uses_volumes c mid volumes v p on.disk ∙ on.lies; failed = failing.stays on.disk on.failed });
  };
  rises = it.rises;
  failing = it.failing;
}

module _ (c0 mid new : GroupCore) (d : Inner) (v p : ℕ) (f : Option Missed) (m m1 m2 : Meaning) (stands : GroupStands c0 m) (narrows : Narrows (wide c0) (wide mid) m m1) (volumes : mid.inner.config.volumes ≡ c0.inner.config.volumes) (lawful : Lawful m1)
    (none : mid.held ≡ None) (attaches : Attaches v p f mid.inner d m1 m2) (e_is : wide new ≡ d) where
  pub through_attaches : SameShape new.inner.config d.config → ((w q : ℕ) → (w ≡ v → q ≡ p → ⊥) → active new.inner.config w q ≡ active d.config w q) → SameParts c0.inner.config mid.inner.config → SameParts d.config new.inner.config → GroupAttaches v p f c0 new m m2
  through_attaches shape others parts last =
      let to_old : SameShape mid.inner.config c0.inner.config = released_shape c0 mid m m1 stands narrows volumes in
      record {
        goes = through_goes c0 mid new mid.inner d m m1 m2 (sym (wide_none mid none)) e_is Nothing (released_goes c0 mid m m1 stands narrows volumes lawful) attaches.goes;
        acts = wide_Acts (Or Nothing (OnMissed mid.inner.config v p f)) (OnMissed c0.inner.config v p f) AnyImage m m2
            (both_Acts Nothing (OnMissed mid.inner.config v p f) AnyImage AnyImage m m1 m2 (loose_Acts Nothing (Sees (wide c0).config (Member c0.inner.good m) m) AnyImage m m1 narrows.acts (λ i sees. tt)) attaches.acts (λ i now. tt))
            (λ u b x. ⊎_elim (λ none_put. absurd none_put) (λ put. on_back c0.inner.config mid.inner.config v p f to_old u b x put));
        shape = then_shape new.inner.config d.config c0.inner.config shape (then_shape d.config mid.inner.config c0.inner.config attaches.shape to_old);
        others = λ w q apart. others w q apart ∙ attaches.others w q apart ∙ released_active c0 mid m m1 stands narrows volumes w q;
        parts = then_parts c0.inner.config mid.inner.config new.inner.config parts (then_parts mid.inner.config d.config new.inner.config attaches.parts last);
        faults = ap (λ (i : Inner). i.faults) e_is ∙ attaches.faults ∙ narrows.faults;
        unsure = ap (λ (i : Inner). i.unsure) e_is ∙ attaches.unsure ∙ narrows.unsure;
      }

  pub through_regains : MoreFailed m m1 c0.inner.config.disks mid.inner.config.disks → Regains mid.inner.config d.config v p m1 m2 → Regains c0.inner.config new.inner.config v p m m2
  through_regains failing regains =
      first_regains m m1 m2 narrows.acts.faults attaches.acts.faults c0.inner.config mid.inner.config d.config new.inner.config v p volumes failing (ap (λ (i : Inner). i.config.disks) e_is) regains

pub released_attaches : (v p : ℕ) (f : Option Missed) (c0 mid : GroupCore) (m m1 : Meaning) → GroupStands c0 m → Narrows (wide c0) (wide mid) m m1 → mid.inner.config.volumes ≡ c0.inner.config.volumes → Lawful m1 → SameParts c0.inner.config mid.inner.config → GroupAttaches v p f c0 mid m m1
released_attaches v p f c0 mid m m1 stands narrows volumes lawful parts = record {
  goes = released_goes c0 mid m m1 stands narrows volumes lawful;
  acts = any_acts Nothing (OnMissed c0.inner.config v p f) (Sees (wide c0).config (Member c0.inner.good m) m) m m1 narrows.acts (λ u k x none. absurd none);
  shape = released_shape c0 mid m m1 stands narrows volumes;
  others = λ w q apart. released_active c0 mid m m1 stands narrows volumes w q;
  parts = parts;
  faults = narrows.faults;
  unsure = narrows.unsure;
}

-- the plex is STALE in memory, where another one was ACTIVE
pub held_other : (mid d : Inner) (v p : ℕ) (f : Option Missed) (m1 m2 : Meaning) → Attaches v p f mid d m1 m2 → SomeActive mid.config v → active mid.config v p ≡ false → HasOther d.config v p
held_other mid d v p f m1 m2 attaches some off = has_other mid.config d.config v p some off attaches.others
