-- What is noted of the maps of disks by themselves, and of a group that came up from them.
use Rattle.std.proofs.Common.{◌≡◌, ◌⊎◌, ◌∙◌, inl, inr, ℕ, Bool, true, false, List, ap, refl, sym, subst}
use Rattle.std.specs.Prelude.{Err, Ok, Option, Result, Some}
use Rattle.vx_config.specs.declared.config.Config.{Config}
use Rattle.vx_disk.specs.Counts.{Rose}
use Rattle.vx_disk.specs.Shelf.{Each, Image, Meaning}
use Rattle.vx_disk.specs.declared.shelf.Shelf.{Ghosts}
use Rattle.vx_history.specs.Groups.{MissedNote}
use Rattle.vx_history.specs.MapChanges.{MapsGone}
use Rattle.vx_kept.specs.Commits.{IsCommitted}
use Rattle.vx_kept.specs.Groups.{found}
use Rattle.vx_kept.proofs.Low.{found_same}
use Rattle.vx_logimport.specs.Rests.{RestsNone, rests}
use Rattle.vx_logimport.specs.declared.rested.Rested.{Rested}
use Rattle.vx_model.specs.declared.errors.Stop.{Stop}
use Rattle.vx_model.specs.declared.errors.Stop.TheVariants.{No as Refused, OutOfMemory}
use Rattle.vx_model.specs.declared.no.No.TheVariants.{Down as IsOff}
use Rattle.vx_untold.specs.Shades.{shade_meaning}
use Rattle.vx_untold.specs.declared.shade.Shade.{Shade}
use Rattle.vx_untold.specs.declared.shade.Shade.TheVariants.{Bright, Dark}
use Rattle.vx_grouped.specs.GroupSites.{idle_disks, laid_disks, site_disks}
use Rattle.vx_grouped.specs.MapsNoted.{MapsNoted}
use Rattle.vx_grouped.specs.PlainMaps.{PartsBack, laid_parts}
use Rattle.vx_grouped.specs.Readies.{ready_of}
use Rattle.vx_grouped.specs.SiteEnds.{stops_down}
use Rattle.vx_grouped.specs.SiteMaps.{BackMaps, CameBack, DiskMaps, DownMaps, FailedAt, IdleMaps, ImportMapped, MapsOf, RecoverMapped, RisenMaps, map_disk_of}
use Rattle.vx_grouped.specs.SiteReturns.{stops_early}
use Rattle.vx_grouped.specs.declared.group_site.GroupSite.{GroupSite}
use Rattle.vx_grouped.specs.declared.group_site.GroupSite.TheVariants.{Deported, Down, Up}
use Rattle.vx_grouped.specs.declared.idle.Idle.{Idle}
use Rattle.vx_grouped.specs.declared.laid.Laid.{Laid}
use Rattle.vx_grouped.proofs.SinceReturns.{dark_none}

-- ---- disks that keep no more

module _ (m m' : Meaning) (units : m'.units ≡ m.units) (size : (u : ℕ) → m'.size u ≡ m.size u) (leaves : (u b : ℕ) (v : List ℕ) → m'.leaves u b v → m.leaves u b v) where
  less_each : (i : Image) → Each m'.leaves i → Each m.leaves i
  less_each i each = λ u b. leaves u b (i u b) (each u b)

  less_found : (i : Image) → found m' i ≡ found m i
  less_found i = found_same m m' units size (λ u. true) i

  pub less_all : (c : Config) → IsCommitted c m → IsCommitted c m'
  less_all c all = record { finds = λ i each. less_found i ∙ all.finds i (less_each i each) }

  less_disks : (w : MissedNote) (c : Config) → DiskMaps w c m → DiskMaps w c m'
  less_disks w c it = record { each = λ i x each at. it.each i x (less_each i each) (sym (less_found i) ∙ at) }

  pub less_idle : (w : MissedNote) (c : Config) (o : Option Rested) → IdleMaps w c o m → IdleMaps w c o m'
  less_idle w c o it = record {
    all = less_all c it.all;
    disks = less_disks w c it.disks;
    alike = it.alike;
    maps = it.maps;
    serial = λ i each. it.serial i (less_each i each);
    known = λ i r v e each is on low used good. it.known i r v e (less_each i each) is on low used good;
  }

  pub less_down : (w : MissedNote) (c : Config) (o : Option Rested) → DownMaps w c o m → DownMaps w c o m'
  less_down w c o it = record { disks = less_disks w c it.disks; rests = it.rests }

  less_risen : (new : Meaning) (next : MissedNote) → RisenMaps m' new next → RisenMaps m new next
  less_risen new next it = record {
    mapped = it.mapped;
    doubt = λ v is tells.
        let some = it.doubt v is tells in
        record {
          image = some.image;
          config = some.config;
          each = less_each some.image some.each;
          finds = sym (less_found some.image) ∙ some.finds;
          clean = some.clean;
          low = some.low;
        };
  }

-- no volume rests that did not
pub crashed_down : (r s : Rested) → s.alike ≡ r.alike → ((v : ℕ) → rests s.maps v ≡ false) → (w : MissedNote) (c : Config) (m : Meaning) → DownMaps w c (Some r) m → DownMaps w c (Some s) m
crashed_down r s alike none w c m it = record {
  disks = it.disks;
  rests = record { none = λ t is. subst (λ (x : Rested). RestsNone x) (one s t is) (record { alike = λ v. ap (λ (flags : List Bool). rests flags v) alike ∙ (it.rests.none r refl).alike v; maps = none }) };
}
  where
    one : (x y : Rested) → Some x ≡ Some y → x ≡ y
    one x y is = cc

-- ---- counts that are the same

module _ (m m1 m2 : Meaning) (counts : (k : ℕ) → m1.disk_faults k ≡ m.disk_faults k) (c d : Config) (w next : MissedNote) where
  from_gone : (v : ℕ) → (next.mapped v ≡ true) ⊎ MapsGone (FailedAt m1 m2) (map_disk_of c) w next v ⊎ Unit {0} → (next.mapped v ≡ true) ⊎ MapsGone (FailedAt m m2) (map_disk_of c) w next v ⊎ Unit {0}
  from_gone v (inl on) = inl on
  from_gone v (inr (inl (inl (k, at, rose)))) = inr (inl (inl (k, at, subst (λ (n : ℕ). Rose n (m2.disk_faults k)) (counts k) rose)))
  from_gone v (inr (inl (inr other))) = inr (inl (inr other))
  from_gone v (inr (inr want)) = inr (inr want)

  from_back : BackMaps m1 m2 c d w next → BackMaps m m2 c d w next
  from_back it = record {
    back = record {
      stays = λ v on clean. from_gone v (it.back.stays v on clean);
      only = it.back.only;
      missed = it.back.missed;
      perhaps = it.back.perhaps;
      doubt = it.back.doubt;
      later = it.back.later;
    };
  }

-- a refusal that says that the disks are down is none that comes before a write
pub down_late : (stop : Stop) → stops_down stop ≡ true → stops_early stop ≡ true → ⊥
down_late (Refused IsOff) down early = let clash : false ≡ true = early in cc
down_late (Refused other) down early = let clash : false ≡ true = down in cc
down_late OutOfMemory down early = let clash : false ≡ true = down in cc

-- and none comes where an import had begun to write
pub never_early : (stop : Stop) → stops_early stop ≡ false → stops_early stop ≡ true → ⊥
never_early stop late early = let clash : false ≡ true = sym late ∙ early in cc

one_config : (a b : Config) → Some a ≡ Some b → a ≡ b
one_config a b is = cc is

-- disks as an import takes them: they keep no more
pub record ReadyLess (old new : Meaning) : Type 0 where
  pub units : new.units ≡ old.units
  pub size : (u : ℕ) → new.size u ≡ old.size u
  pub leaves : (u b : ℕ) (v : List ℕ) → new.leaves u b v → old.leaves u b v
  pub counts : (k : ℕ) → new.disk_faults k ≡ old.disk_faults k

ready_less : {R : Type 0} (meaning : R → Meaning) (agreed : Bool) (s : Shade R) → ReadyLess (shade_meaning meaning s) (shade_meaning meaning (ready_of agreed s))
ready_less meaning true s = record { units = refl; size = λ u. refl; leaves = λ u b v left. left; counts = λ k. refl }
ready_less meaning false (Dark r) = record { units = refl; size = λ u. refl; leaves = λ u b v left. left; counts = λ k. refl }
ready_less meaning false (Bright r) = record { units = refl; size = λ u. refl; leaves = λ u b v left. absurd ((dark_none meaning (Bright r)).leaves u b v left); counts = λ k. refl }

module _ {R : Type 0} {g : Ghosts R} where
  -- ---- disks by themselves, under a site

  pub down_of : (idle : Idle R g) (rack : Shade R) (o : Option Rested) → idle.rack ≡ rack → idle.rested ≡ o → (w : MissedNote) (c : Config) → DownMaps w c o (shade_meaning g.meaning rack) → MapsOf w c (Down idle)
  down_of idle rack o is rests w c it = subst (λ (p : Option Rested). DownMaps w c p (idle_disks idle)) (sym rests) (subst (λ (s : Shade R). DownMaps w c o (shade_meaning g.meaning s)) (sym is) it)

  pub idle_of : (idle : Idle R g) (rack : Shade R) (o : Option Rested) → idle.rack ≡ rack → idle.rested ≡ o → (w : MissedNote) (c : Config) → IdleMaps w c o (shade_meaning g.meaning rack) → MapsOf w c (Deported idle)
  idle_of idle rack o is rests w c it = subst (λ (p : Option Rested). IdleMaps w c p (idle_disks idle)) (sym rests) (subst (λ (s : Shade R). IdleMaps w c o (shade_meaning g.meaning s)) (sym is) it)

  -- ---- a group that came up

  module _ (old m1 : Meaning) (units : m1.units ≡ old.units) (size : (u : ℕ) → m1.size u ≡ old.size u) (leaves : (u b : ℕ) (v : List ℕ) → m1.leaves u b v → old.leaves u b v) (counts : (k : ℕ) → m1.disk_faults k ≡ old.disk_faults k) where
    -- by disks that keep no more
    pub came_from : (o : Option Rested) (new : GroupSite R g) → CameBack o m1 new → CameBack o old new
    came_from o new it = record {
      so = λ w c d tells now idle.
          let b = it.so w c d tells now (less_idle old m1 units size leaves w c o idle) in
          (b.0, from_back old m1 (site_disks new) counts c d w b.0 b.1, b.2);
      some = it.some;
      none = λ d now not. let b = it.none d now not in (b.0, less_risen old m1 units size leaves (site_disks new) b.0 b.1, b.2);
    }

    pub came_up : (laid : Laid R g) (rested : Rested) → PartsBack rested m1 (laid_parts laid) (laid_disks laid) → CameBack (Some rested) old (Up laid)
    came_up laid rested it = record {
      so = λ w c d tells now idle.
          let b = it.so w c tells (less_idle old m1 units size leaves w c (Some rested) idle) in
          subst (λ (y : Config). (next : MissedNote) × BackMaps old (laid_disks laid) c y w next × MapsNoted next y laid.logs.items laid.alike laid.stopped) (one_config laid.core.inner.config d now)
          (b.0, from_back old m1 (laid_disks laid) counts c laid.core.inner.config w b.0 b.1, b.2);
      some = λ d now. subst (λ (y : Config). (w : MissedNote) × MapsNoted w y laid.logs.items laid.alike laid.stopped) (one_config laid.core.inner.config d now) it.some;
      none = λ d now not.
          let b = it.none (not.none rested refl) in
          subst (λ (y : Config). (next : MissedNote) × RisenMaps old (laid_disks laid) next × MapsNoted next y laid.logs.items laid.alike laid.stopped) (one_config laid.core.inner.config d now) (b.0, less_risen old m1 units size leaves (laid_disks laid) b.0 b.1, b.2);
    }

  -- ---- disks as an import takes them

  module _ (idle : Idle R g) (ready : Shade R) (is : ready ≡ ready_of idle.agreed idle.rack) (rested : Rested) (at : idle.rested ≡ Some rested) (new : GroupSite R g) where
    less : ReadyLess (idle_disks idle) (shade_meaning g.meaning ready)
    less = subst (λ (s : Shade R). ReadyLess (idle_disks idle) (shade_meaning g.meaning s)) (sym is) (ready_less g.meaning idle.agreed idle.rack)

    came_ready : CameBack (Some rested) (shade_meaning g.meaning ready) new → CameBack idle.rested (idle_disks idle) new
    came_ready it =
        subst (λ (o : Option Rested). CameBack o (idle_disks idle) new) (sym at) (came_from (idle_disks idle) (shade_meaning g.meaning ready) less.units less.size less.leaves less.counts (Some rested) new it)

    pub imported_maps : (r : Result (Unit {0}) Stop) → ImportMapped (Some rested) (shade_meaning g.meaning ready) new r → ImportMapped idle.rested (idle_disks idle) new r
    imported_maps (Ok done) it = came_ready it
    imported_maps (Err stop) it = λ early w c maps.
        it early w c (less_idle (idle_disks idle) (shade_meaning g.meaning ready) less.units less.size less.leaves w c (Some rested) (subst (λ (o : Option Rested). IdleMaps w c o (idle_disks idle)) at maps))

    pub recovered_maps : (r : Result (Unit {0}) Stop) → RecoverMapped (Some rested) (shade_meaning g.meaning ready) new r → RecoverMapped idle.rested (idle_disks idle) new r
    recovered_maps (Ok done) it = came_ready it
    recovered_maps (Err stop) it = λ early w c maps.
        it early w c (less_down (idle_disks idle) (shade_meaning g.meaning ready) less.units less.size less.leaves w c (Some rested) (subst (λ (o : Option Rested). DownMaps w c o (idle_disks idle)) at maps))
