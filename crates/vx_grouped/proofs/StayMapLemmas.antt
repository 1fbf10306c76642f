-- A site whose disks are made to fail, or get a fuse, has the maps that it had.
use Rattle.std.proofs.Common.{◌≡◌, ap, subst, sym}
use Rattle.vx_disk.specs.Racks.{Alike}
use Rattle.vx_disk.specs.declared.shelf.Shelf.{Ghosts}
use Rattle.vx_group.specs.declared.group_core.GroupCore.{GroupCore}
use Rattle.vx_grouped.specs.GroupSites.{idle_disks}
use Rattle.vx_grouped.specs.PlainMaps.{laid_parts}
use Rattle.vx_grouped.specs.SiteMaps.{DownMaps, IdleMaps, StaysMapped}
use Rattle.vx_grouped.specs.declared.group_site.GroupSite.{GroupSite}
use Rattle.vx_grouped.specs.declared.group_site.GroupSite.TheVariants.{Deported, Down, Marked, Up}
use Rattle.vx_grouped.specs.declared.idle.Idle.{Idle}
use Rattle.vx_grouped.specs.declared.laid.Laid.{Laid}
use Rattle.vx_grouped.proofs.PlainMapLemmas.{parts_same}
use Rattle.vx_grouped.proofs.ReturnMapLemmas.{less_down, less_idle}
use Rattle.vx_grouped.proofs.UpMapLemmas.{read_maps}

module _ {R : Type 0} {g : Ghosts R} where
  pub up_same : (e : GroupSite R g) (old new : Laid R g) → e ≡ Up old → new.core ≡ old.core → new.logs ≡ old.logs → new.alike ≡ old.alike → new.stopped ≡ old.stopped → StaysMapped e (Up new)
  up_same e old new is core logs flags ended = subst (λ (x : GroupSite R g). StaysMapped x (Up new)) (sym is) (read_maps old new same)
    where
      same : laid_parts new ≡ laid_parts old
      same =
          parts_same old.core.inner.config new.core.inner.config old.logs.items new.logs.items old.alike new.alike old.stopped new.stopped (ap (λ (x : GroupCore). x.inner.config) core) (ap (λ l. l.items) logs)
          flags ended

  pub deported_same : (e : GroupSite R g) (old new : Idle R g) → e ≡ Deported old → new.rested ≡ old.rested → Alike (idle_disks old) (idle_disks new) → StaysMapped e (Deported new)
  deported_same e old new is rested alike =
      subst (λ (x : GroupSite R g). StaysMapped x (Deported new)) (sym is)
      (λ note it. record {
        config = it.config;
        is = it.is;
        spells = it.spells;
        up = it.up;
        maps = λ bright.
            subst (λ o. IdleMaps note.maps it.config o (idle_disks new)) (sym rested)
            (less_idle (idle_disks old) (idle_disks new) alike.contents.units alike.contents.size alike.contents.leaves note.maps it.config old.rested (it.maps bright));
      })

  pub down_same : (e : GroupSite R g) (old new : Idle R g) → e ≡ Down old → new.rested ≡ old.rested → Alike (idle_disks old) (idle_disks new) → StaysMapped e (Down new)
  down_same e old new is rested alike =
      subst (λ (x : GroupSite R g). StaysMapped x (Down new)) (sym is)
      (λ note it. record {
        config = it.config;
        is = it.is;
        spells = it.spells;
        up = it.up;
        maps = λ bright.
            subst (λ o. DownMaps note.maps it.config o (idle_disks new)) (sym rested)
            (less_down (idle_disks old) (idle_disks new) alike.contents.units alike.contents.size alike.contents.leaves note.maps it.config old.rested (it.maps bright));
      })

  pub marked_same : (e : GroupSite R g) (old new : R) → e ≡ Marked old → StaysMapped e (Marked new)
  marked_same e old new is =
      subst (λ (x : GroupSite R g). StaysMapped x (Marked new)) (sym is)
      (λ note it. record { config = it.config; is = it.is; spells = it.spells; up = it.up; maps = tt })

  pub as_was : (e new : GroupSite R g) → e ≡ new → StaysMapped e new
  as_was e new is = subst (λ (x : GroupSite R g). StaysMapped e x) is (λ note it. it)
