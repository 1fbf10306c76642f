-- Which configurations images have behind calls of a whole group.
use Rattle.std.proofs.Common.{◌≡◌, ◌⊎◌, inl, inr, true, false, Option, Some, None, List, refl, ap, sym, ◌∙◌, subst}
use Rattle.std.proofs.lemmas.Bool.{both_ways}
use Rattle.vx_disk.specs.Shelf.{Meaning}
use Rattle.vx_config.specs.declared.entry.DiskEntry.{DiskEntry}
use Rattle.vx_group.specs.Finds.{CoreEnds, CoreFinds, GroupFinds, GroupImages, HeadersMissed, MoreUnsure}
use Rattle.vx_group.specs.Holding.{HeldAgain, wide}
use Rattle.vx_group.specs.Settles.{CoreSettles}
use Rattle.vx_group.specs.declared.group_core.GroupCore.{GroupCore}
use Rattle.vx_group.specs.declared.group_core.Held.{Held}
use Rattle.vx_group.specs.declared.inner.Inner.{Inner}
use Rattle.vx_group.proofs.FindingLemmas.{ends_finds, open_finds, then_finds}
use Rattle.vx_group.proofs.HoldLemmas.{wide_none}
use Rattle.vx_group.proofs.SettleCalls.{then_told}
use Rattle.vx_kept.specs.Cleans.{is_unsure}

-- ---- behind the commit that detaches the plex that is held back

-- where none is held back
pub second_finds : (c0 mid : GroupCore) (d : Inner) (m m1 m2 : Meaning) → mid.held ≡ None → GroupFinds c0 mid m m1 → CoreFinds mid.inner d m1 m2 → CoreSettles mid.inner d m1 m2
    → MoreUnsure mid.inner.unsure d.unsure → GroupFinds c0 (record { inner = d; held = mid.held }) m m2
second_finds c0 mid d m m1 m2 none first second told more = record {
  unsure = λ v is. first.unsure v (more v is);
  settles = subst (λ (i : Inner). CoreSettles (wide c0) i m m2) (sym (wide_none (record { inner = d; held = mid.held }) none))
      (then_told (wide c0) (wide mid) d m m1 m2 first.settles (subst (λ (i : Inner). CoreSettles i d m1 m2) (sym (wide_none mid none)) told));
  core = subst (λ (i : Inner). CoreFinds (wide c0) i m m2) (sym (wide_none (record { inner = d; held = mid.held }) none))
      (then_finds (wide c0) (wide mid) d m m1 m2 first.core (subst (λ (i : Inner). CoreFinds i d m1 m2) (sym (wide_none mid none)) second));
  free = λ h. first.free h;
}

pub second_images : (c0 mid : GroupCore) (d : Inner) (m m1 m2 : Meaning) → mid.held ≡ None → GroupFinds c0 mid m m1 → CoreFinds mid.inner d m1 m2 → GroupImages c0 (record { inner = d; held = mid.held }) m m2
second_images c0 mid d m m1 m2 none first second = record {
  core = subst (λ (i : Inner). CoreFinds (wide c0) i m m2) (sym (wide_none (record { inner = d; held = mid.held }) none))
      (then_finds (wide c0) (wide mid) d m m1 m2 first.core (subst (λ (i : Inner). CoreFinds i d m1 m2) (sym (wide_none mid none)) second));
  free = λ h. first.free h;
}

-- where one may be
pub through_finds : (c0 mid c2 new : GroupCore) (x e : Inner) (m m1 m2 : Meaning) → x ≡ wide mid → wide new ≡ e → (held : Option Held) → held ≡ mid.held → c2.held ≡ None → HeldAgain held c2 new → GroupFinds c0 mid m m1 → CoreFinds x e m1 m2
    → CoreSettles x e m1 m2 → MoreUnsure x.unsure e.unsure → GroupFinds c0 new m m2
through_finds c0 mid c2 new x e m m1 m2 x_is e_is held held_is none again first second told more = record {
  unsure = λ v is. first.unsure v (ap (λ (i : Inner). is_unsure i.unsure v) (sym x_is) ∙ more v (ap (λ (i : Inner). is_unsure i.unsure v) (sym e_is) ∙ is));
  settles = subst (λ (i : Inner). CoreSettles (wide c0) i m m2) (sym e_is)
      (then_told (wide c0) (wide mid) e m m1 m2 first.settles (subst (λ (i : Inner). CoreSettles i e m1 m2) x_is told));
  core = subst (λ (i : Inner). CoreFinds (wide c0) i m m2) (sym e_is)
      (then_finds (wide c0) (wide mid) e m m1 m2 first.core (subst (λ (i : Inner). CoreFinds i e m1 m2) x_is second));
  free = λ h. by held again (held_is ∙ first.free h);
}
  where
    by : (o : Option Held) → HeldAgain o c2 new → o ≡ None → new.held ≡ None
    by None at is = ap (λ (k : GroupCore). k.held) at ∙ none
    by (Some h) at is = absurd (let clash : Some h ≡ None = is in cc)

-- a call of the parts of a group of which no plex is held back
pub alone_finds : (c d : GroupCore) (m m' : Meaning) → c.held ≡ None → d.held ≡ None → CoreFinds c.inner d.inner m m' → CoreSettles c.inner d.inner m m' → MoreUnsure c.inner.unsure d.inner.unsure → GroupFinds c d m m'
alone_finds c d m m' none still goes told more = record {
  unsure = more;
  settles = subst (λ (i : Inner). CoreSettles (wide c) i m m') (sym (wide_none d still)) (subst (λ (i : Inner). CoreSettles i d.inner m m') (sym (wide_none c none)) told);
  core = subst (λ (i : Inner). CoreFinds (wide c) i m m') (sym (wide_none d still)) (subst (λ (i : Inner). CoreFinds i d.inner m m') (sym (wide_none c none)) goes);
  free = λ h. still;
}

-- ---- disks that are held as good again

pub recommit_finds : (c held d : Inner) (m m' : Meaning) → d.unsettled ≡ false → HeadersMissed held d m m' ⊎ CoreEnds d m m' → CoreFinds c d m m'
recommit_finds c held d m m' off (inl missed) = absurd (both_ways d.unsettled off missed.unsettled)
recommit_finds c held d m m' off (inr ends) = ends_finds c d m m' ends

module _ (c held d : Inner) (ds : List DiskEntry) (m m' : Meaning) where
  abbrev back : Inner
  back = record {
    config = record { serial = d.config.serial; site = d.config.site; disks = ds; volumes = d.config.volumes; rvg = d.config.rvg };
    good = d.good;
    room = d.room;
    unsettled = d.unsettled;
    committed = false;
    agreed = d.agreed;
    next = d.next;
    faults = d.faults;
    unsure = d.unsure;
  }

  pub back_finds : HeadersMissed held d m m' ⊎ CoreEnds d m m' → CoreFinds c back m m'
  back_finds (inl missed) = open_finds c back m m' (λ was. refl) missed.finds
  back_finds (inr ends) = record { begun = ends.begun; finds = ends.finds; openly = λ was is. refl; sure = λ was is. absurd (let clash : false ≡ true = is in cc) }

-- ---- behind the commit that detaches the plex that is held back, where another one may be then

pub ahead_finds : (c0 mid new : GroupCore) (d : Inner) (m m1 m2 : Meaning) → mid.held ≡ None → wide new ≡ d → GroupFinds c0 mid m m1 → CoreFinds mid.inner d m1 m2 → CoreFinds (wide c0) (wide new) m m2
ahead_finds c0 mid new d m m1 m2 none is first second = subst (λ (i : Inner). CoreFinds (wide c0) i m m2) (sym is)
    (then_finds (wide c0) (wide mid) d m m1 m2 first.core (subst (λ (i : Inner). CoreFinds i d m1 m2) (sym (wide_none mid none)) second))

pub ahead_told : (c0 mid new : GroupCore) (d : Inner) (m m1 m2 : Meaning) → mid.held ≡ None → wide new ≡ d → GroupFinds c0 mid m m1 → CoreSettles mid.inner d m1 m2 → CoreSettles (wide c0) (wide new) m m2
ahead_told c0 mid new d m m1 m2 none is first told = subst (λ (i : Inner). CoreSettles (wide c0) i m m2) (sym is)
    (then_told (wide c0) (wide mid) d m m1 m2 first.settles (subst (λ (i : Inner). CoreSettles i d m1 m2) (sym (wide_none mid none)) told))
