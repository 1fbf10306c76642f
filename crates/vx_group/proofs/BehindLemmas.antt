-- A volume that is made, and a deport, behind the commit that detaches the plex that is held back.
use Rattle.std.proofs.Common.{◌≡◌, inl, inr, ⊎_elim, ℕ, Bool, true, false, IsTrue, Option, Some, None, List, length, refl, ap, sym, ◌∙◌, subst, arith}
use Rattle.vx_disk.specs.Shelf.{Goes, Lawful, Meaning, Nothing, Or}
use Rattle.vx_disk.proofs.Runs.{nothing_then, same_Goes}
use Rattle.vx_config.specs.declared.config.Config.{Config}
use Rattle.vx_config.specs.declared.entry.VolumeEntry.{VolumeEntry}
use Rattle.vx_copies.specs.Commits.{MoreFailed}
use Rattle.vx_copies.specs.Marks.{blocks_at}
use Rattle.vx_layout.specs.Made.{with_volume}
use Rattle.vx_layout.specs.Places.{place}
use Rattle.vx_volume.specs.Plexes.{active}
use Rattle.vx_volume.specs.Volumes.{PlexFlushed}
use Rattle.vx_kept.specs.Cleans.{cleaned, is_unsure}
use Rattle.vx_kept.specs.Commits.{Member}
use Rattle.vx_kept.specs.Groups.{group_meaning}
use Rattle.vx_kept.specs.Keeping.{SameShape, Sees}
use Rattle.vx_kept.proofs.Chosen.{extends_volumes, same_extends}
use Rattle.vx_kept.proofs.Narrower.{stand_apart}
use Rattle.vx_kept.proofs.StateLemmas.{same_shape, then_shape}
use Rattle.vx_kept.proofs.Steps.{both_Acts, group-Goes, inside_back, same_Acts, wide_Acts}
use Rattle.vx_group.specs.Calls.{GroupBack, GroupStays}
use Rattle.vx_group.specs.Copying.{NoMember}
use Rattle.vx_group.specs.Deports.{Deported, DeportedBy, IsVolumeOf}
use Rattle.vx_group.specs.Holding.{GroupStands, config_by, volumes_by, wide}
use Rattle.vx_group.specs.Makes.{AreZero, StayAsWere}
use Rattle.vx_group.specs.Moves.{Narrows}
use Rattle.vx_group.specs.Nexts.{Added, IsNextConfig}
use Rattle.vx_group.specs.Quiesces.{GivenBack, NoVolume, QuiescesBy}
use Rattle.vx_group.specs.Stands.{InnerStands, volume_faults, inner_meaning}
use Rattle.vx_group.specs.declared.group_core.GroupCore.{GroupCore}
use Rattle.vx_group.specs.declared.group_core.Held.{Held}
use Rattle.vx_group.specs.declared.inner.Inner.{Inner}
use Rattle.vx_group.proofs.CopyLemmas.{loose_Acts, sees_none, sees_wider}
use Rattle.vx_group.proofs.FailingLemmas.{sound_same, then_failing}
use Rattle.vx_group.proofs.HoldLemmas.{active_at_volumes, from_none, narrow_sound, none_Stands, wide_none}
use Rattle.vx_group.proofs.LoseLemmas.{loses_none, loses_same, then_loses}
use Rattle.vx_group.proofs.MakeLemmas.{config_is, volumes_Goes}
use Rattle.vx_group.proofs.QuiesceLemmas.{both_parts, or_failed, same_parts}
use Rattle.vx_group.proofs.Standing.{apart_of_core}
use Rattle.vx_group.proofs.ThroughLemmas.{released_active, released_goes, released_shape}
use Rattle.vx_group.specs.Loses.{SameParts}

-- ---- a volume that is made

pub by_same : (o : Option Held) (c d : Config) → d.volumes ≡ c.volumes → volumes_by o d ≡ volumes_by o c
by_same None c d same = same
by_same (Some h) c d same = active_at_volumes h.vol h.plex c d same

pub no_stays : (c : GroupCore) (m : Meaning) → GroupStays c c m m
no_stays c m = record {
  goes = same_Goes Nothing (inner_meaning (wide c) m);
  shape = same_extends c.inner.config c.inner.config (same_shape c.inner.config);
  on = λ v p lt. refl;
  faults = refl;
  unsure = refl;
}

module _ (c0 mid : GroupCore) (m m1 : Meaning) (stands : GroupStands c0 m) (narrows : Narrows (wide c0) (wide mid) m m1) (volumes : mid.inner.config.volumes ≡ c0.inner.config.volumes) (mid_stands : GroupStands mid m1) (lawful : Lawful m1) where
  pub released_stays : GroupStays c0 mid m m1
  released_stays = record {
    goes = nothing_then Nothing (inner_meaning (wide c0) m) (inner_meaning (wide mid) m1) (group_meaning (config_by mid.held c0.inner.config) (volume_faults mid.inner.faults) m1) (released_goes c0 mid m m1 stands narrows volumes lawful)
        (volumes_Goes (wide mid).config (config_by mid.held c0.inner.config) (volume_faults mid.inner.faults) m1 lawful (apart_of_core (wide mid) m1 mid_stands.stands) (sym (by_same mid.held c0.inner.config mid.inner.config volumes)));
    shape = same_extends mid.inner.config c0.inner.config (released_shape c0 mid m m1 stands narrows volumes);
    on = λ v p lt. released_active c0 mid m m1 stands narrows volumes v p;
    faults = narrows.faults;
    unsure = narrows.unsure;
  }

  module _ (none : mid.held ≡ None) (d : Inner) (m2 : Meaning) (after : Lawful m2) (stay : StayAsWere mid.inner d m1 m2) where
    abbrev new : GroupCore
    new = record { inner = d; held = mid.held }

    last_goes : Goes Nothing (inner_meaning mid.inner m1) (group_meaning c0.inner.config (volume_faults d.faults) m2)
    last_goes = nothing_then Nothing (inner_meaning mid.inner m1) (group_meaning mid.inner.config (volume_faults d.faults) m2) (group_meaning c0.inner.config (volume_faults d.faults) m2) stay.goes
        (volumes_Goes mid.inner.config c0.inner.config (volume_faults d.faults) m2 after (apart_of_core mid.inner m1 (from_none mid m1 none mid_stands)) (sym volumes))

    pub later_stays : GroupStays c0 new m m2
    later_stays = record {
      goes = subst (λ (o : Option Held). Goes Nothing (inner_meaning (wide c0) m) (group_meaning (config_by o c0.inner.config) (volume_faults d.faults) m2)) (sym none)
          (nothing_then Nothing (inner_meaning (wide c0) m) (inner_meaning (wide mid) m1) (group_meaning c0.inner.config (volume_faults d.faults) m2) (released_goes c0 mid m m1 stands narrows volumes lawful)
          (subst (λ (i : Inner). Goes Nothing (inner_meaning i m1) (group_meaning c0.inner.config (volume_faults d.faults) m2)) (sym (wide_none mid none)) last_goes));
      shape = extends_volumes d.config mid.inner.config c0.inner.config (sym volumes) stay.shape;
      on = λ v p lt. stay.on v p (let count = ap length volumes in omega (arith, lt, count)) ∙ released_active c0 mid m m1 stands narrows volumes v p;
      faults = stay.faults ∙ narrows.faults;
      unsure = stay.unsure ∙ narrows.unsure;
    }

pub behind_next : (m m1 : Meaning) (c mid next last : Config) → mid.volumes ≡ c.volumes → SameParts c mid → MoreFailed m m1 c.disks mid.disks → IsNextConfig c next
    → last ≡ record { serial = mid.serial; site = next.site; disks = mid.disks; volumes = next.volumes; rvg = next.rvg } → IsNextConfig mid last
behind_next m m1 c mid next last volumes parts failing is_next is = subst (λ (x : Config). IsNextConfig mid x) (sym is) (record {
  volume = is_next.volume;
  is = config_is (record { serial = mid.serial; site = next.site; disks = mid.disks; volumes = next.volumes; rvg = next.rvg }) (with_volume mid is_next.volume)
      refl (ap (λ (x : Config). x.site) is_next.is ∙ sym parts.site) refl
      (ap (λ (x : Config). x.volumes) is_next.is ∙ ap (λ (vs : List VolumeEntry). (with_volume (record { serial = 0; site = 0; disks = mid.disks; volumes = vs; rvg = None }) is_next.volume).volumes) (sym volumes))
      (ap (λ (x : Config). x.rvg) is_next.is ∙ sym parts.rvg);
  sound = sound_same next mid.serial next.site mid.disks (parts.count ∙ sym (ap (λ (x : Config). length x.disks) is_next.is)) (λ k. failing.blocks k ∙ sym (ap (λ (x : Config). blocks_at x.disks k) is_next.is)) ∙ is_next.sound;
  few = is_next.few;
  small = is_next.small;
  on = is_next.on;
  lost = is_next.lost;
})

pub behind_added : (c mid d : Inner) (next last : Config) (m2 : Meaning) → mid.config.volumes ≡ c.config.volumes → last.volumes ≡ next.volumes → Added mid d last m2 → Added c d next m2
behind_added c mid d next last m2 volumes same added = record {
  volumes = added.volumes ∙ same;
  begins = subst (λ (n : ℕ). AreZero d.config n m2) (ap length volumes) added.begins;
}

-- ---- a deport

pub group_still : (c : GroupCore) (m : Meaning) → GroupStands c m → GroupBack c c m m
group_still c m stands = record {
  stands = stands;
  parts = same_parts c.inner;
  quiesces = record {
    acts = same_Acts (Sees (wide c).config NoMember m) m;
    shape = same_shape c.inner.config;
    on = λ v p is. is;
    volumes = inl refl;
    unsure = inl refl;
    loses = loses_same c.inner.config m m;
    sure = λ v is. is;
    faults = refl;
    flushed = λ v p none. absurd none;
  };
}

module _ (c0 mid : GroupCore) (m m1 : Meaning) (stands : GroupStands c0 m) (narrows : Narrows (wide c0) (wide mid) m m1) (volumes : mid.inner.config.volumes ≡ c0.inner.config.volumes) (failing : MoreFailed m m1 c0.inner.config.disks mid.inner.config.disks) where
  unmarked : (v : ℕ) → is_unsure mid.inner.unsure v ≡ false → is_unsure c0.inner.unsure v ≡ false
  unmarked v is = ap (λ (u : List Bool). is_unsure u v) (sym narrows.unsure) ∙ is

  pub released_back : GroupStands mid m1 → SameParts c0.inner.config mid.inner.config → GroupBack c0 mid m m1
  released_back it parts = record {
    stands = it;
    parts = parts;
    quiesces = record {
      acts = loose_Acts Nothing (Sees (wide c0).config (Member c0.inner.good m) m) (Sees (wide c0).config NoMember m) m m1 narrows.acts (λ i sees. sees_none (wide c0).config (Member c0.inner.good m) m i sees);
      shape = released_shape c0 mid m m1 stands narrows volumes;
      on = λ v p is. sym (released_active c0 mid m m1 stands narrows volumes v p) ∙ is;
      volumes = inl volumes;
      unsure = inl narrows.unsure;
      loses = loses_none c0.inner.config mid.inner.config m m1 volumes failing parts;
      sure = unmarked;
      faults = narrows.faults;
      flushed = λ v p none. absurd none;
    };
  }

  module _ (parts : SameParts c0.inner.config mid.inner.config) (none : mid.held ≡ None) (up : IsTrue m1.down → ⊥) (d : Inner) (m2 : Meaning) (P Q : ℕ → Type 0) (part : (v : ℕ) → Q v → P v) (two : QuiescesBy mid.inner.config mid.inner d P m1 m2) where
    to_wide : SameShape mid.inner.config (wide c0).config
    to_wide = subst (λ (i : Inner). SameShape i.config (wide c0).config) (wide_none mid none) narrows.shape

    to_old : SameShape mid.inner.config c0.inner.config
    to_old = released_shape c0 mid m m1 stands narrows volumes

    back_on : (w q : ℕ) → IsTrue (active mid.inner.config w q) → IsTrue (active (wide c0).config w q)
    back_on w q is = narrows.on w q (ap (λ (i : Inner). active i.config w q) (wide_none mid none) ∙ is)

    from_second : (v p : ℕ) → PlexFlushed mid.inner.config v p m1 m2 → IsTrue (active c0.inner.config v p) → PlexFlushed c0.inner.config v p m m2
    from_second v p now is_on = record {
      each = λ k x in_it left.
          let at : place mid.inner.config v p k ≡ place c0.inner.config v p k = to_old.place v p k in
          let read : m1.reads (place c0.inner.config v p k).0 (place c0.inner.config v p k).1 x = subst (λ (q : ℕ × ℕ). m1.reads q.0 q.1 x) at
          (now.each k x (inside_back mid.inner.config c0.inner.config to_old v k in_it) (subst (λ (q : ℕ × ℕ). m2.leaves q.0 q.1 x) (sym at) left)) in
          elim (narrows.acts.reads (place c0.inner.config v p k).0 (place c0.inner.config v p k).1 x ((stand_apart c0.inner.config (narrow_sound c0 m stands)).above v p k in_it is_on) read) [
            | inl (inl was) ↦ was
            | inl (inr no_put) ↦ absurd no_put
            | inr down ↦ absurd (up down)
          ];
    }

    pub behind_quiesces : QuiescesBy (wide c0).config c0.inner d Q m m2
    behind_quiesces = record {
      acts = wide_Acts (Or Nothing Nothing) Nothing (Sees (wide c0).config NoMember m) m m2
          (both_Acts Nothing Nothing (Sees (wide c0).config NoMember m) (Sees mid.inner.config NoMember m1) m m1 m2
          (loose_Acts Nothing (Sees (wide c0).config (Member c0.inner.good m) m) (Sees (wide c0).config NoMember m) m m1 narrows.acts (λ i sees. sees_none (wide c0).config (Member c0.inner.good m) m i sees)) two.acts
          (λ i sees. sees_wider (wide c0).config mid.inner.config NoMember m m1 to_wide back_on narrows.acts.units narrows.acts.size i sees))
          (λ u b x. ⊎_elim (λ no_put. no_put) (λ no_put. no_put));
      shape = then_shape d.config mid.inner.config c0.inner.config two.shape to_old;
      on = λ v p is. sym (released_active c0 mid m m1 stands narrows volumes v p) ∙ two.on v p is;
      volumes = or_failed c0.inner.config.volumes mid.inner.config.volumes d.config.volumes m m1 m2 narrows.acts.disk_faults two.acts.disk_faults (inl volumes) two.volumes;
      unsure = or_failed c0.inner.unsure mid.inner.unsure d.unsure m m1 m2 narrows.acts.disk_faults two.acts.disk_faults (inl narrows.unsure) two.unsure;
      loses = then_loses m m1 m2 narrows.acts.faults two.acts.faults c0.inner.config mid.inner.config d.config (loses_none c0.inner.config mid.inner.config m m1 volumes failing parts) two.loses;
      sure = λ v is. unmarked v (two.sure v is);
      faults = two.faults ∙ narrows.faults;
      flushed = λ v p it sure is_on. from_second v p (two.flushed v p (part v it) sure is_on) (sym (released_active c0 mid m m1 stands narrows volumes v p) ∙ two.on v p is_on);
    }

  module _ (none : mid.held ≡ None) (up : IsTrue m1.down → ⊥) (parts : SameParts c0.inner.config mid.inner.config) (trust : c0.inner.committed ≡ true → mid.inner.committed ≡ true) (d : Inner) (m2 : Meaning) where
    pub behind_deported : Deported mid.inner m1 m2 → DeportedBy (wide c0).config c0.inner m m2
    behind_deported it = record {
      behind = it.behind;
      quiesces = behind_quiesces parts none up it.behind m2 (IsVolumeOf mid.inner) (IsVolumeOf c0.inner) (λ v lt. let count : length mid.inner.config.volumes ≡ length c0.inner.config.volumes = ap length volumes in omega (arith, lt, count)) it.quiesces;
      config = it.config;
      finds = it.finds;
      reads = it.reads;
      parts = record { site = it.parts.site ∙ parts.site; rvg = it.parts.rvg ∙ parts.rvg; count = it.parts.count ∙ parts.count; later = (let one = parts.later in let two = it.parts.later in omega (arith, one, two)) };
      volumes = it.volumes ∙ ap (λ (n : ℕ). (cleaned (it.behind).unsure (it.behind).config n).volumes) (ap length volumes);
      off = it.off;
      failing = then_failing m m1 m2 narrows.acts.faults it.quiesces.acts.faults c0.inner.config.disks mid.inner.config.disks it.config.disks failing it.failing;
      kept = it.kept;
      trusts = λ is. it.trusts (trust is);
      some = it.some;
    }

    pub behind_back : GivenBack mid.inner d m1 m2 → GroupBack c0 (record { inner = d; held = mid.held }) m m2
    behind_back it = record {
      stands = none_Stands (record { inner = d; held = mid.held }) m2 none it.stands;
      parts = both_parts c0.inner mid.inner d parts it.parts;
      quiesces = behind_quiesces parts none up d m2 NoVolume NoVolume (λ v no_volume. no_volume) it.quiesces;
    }

-- to the volumes it is no step
pub back_goes : (c d : Inner) (m m' : Meaning) → Lawful m' → InnerStands c m → GivenBack c d m m' → Goes Nothing (inner_meaning c m) (inner_meaning d m')
back_goes c d m m' after stands it = group-Goes c.config d.config NoMember (volume_faults c.faults) (volume_faults d.faults) m m' Nothing Nothing it.quiesces.acts (apart_of_core c m stands) it.quiesces.shape it.quiesces.on
    (λ v p b x in_it is_on none. none) (λ u. let same = ap (λ (f : List ℕ). volume_faults f u) it.quiesces.faults in omega (arith, same)) (λ not t i left. after.never not t i left)
