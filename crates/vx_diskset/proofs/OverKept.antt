-- Calls on the group below a replicated volume group: it stands as it did, or the site crashed behind the call.
use Rattle.std.proofs.Common.{◌≡◌, ℕ, ◌<◌, List, length, refl, ap, sym, ◌∙◌, subst}
use Rattle.vx_diskset.proofs.RawSets.{over_on}
use Rattle.std.specs.Prelude.{IsFalse}
use Rattle.vx_disk.specs.Moves.{Blocks, Nowhere}
use Rattle.vx_disk.specs.Racks.{IsRack}
use Rattle.vx_disk.specs.Shelf.{Covers, Lawful}
use Rattle.vx_disk.specs.declared.shelf.Shelf.{Ghosts}
use Rattle.vx_group.specs.Holding.{wide}
use Rattle.vx_group.specs.Laws.{group_lawful}
use Rattle.vx_history.specs.World.{Node}
use Rattle.vx_kept.specs.Commits.{Member}
use Rattle.vx_model.specs.declared.units.Units.{Units}
use Rattle.vx_rvg.specs.Views.{unit_of}
use Rattle.vx_untold.specs.Shades.{shade_meaning}
use Rattle.vx_untold.specs.declared.shade.Shade.{Shade}
use Rattle.vx_blockwise.specs.Blocks.{alone_lawful}
use Rattle.vx_ground.specs.Lifted.{laid_volumes}
use Rattle.vx_diskset.specs.LaidBlocks.{laid_blockwise}
use Rattle.vx_diskset.proofs.BlockLemmas.{sound_alone}
use Rattle.vx_grouped.specs.GroupSites.{laid_disks}
use Rattle.vx_grouped.specs.Volumes.{SiteGoes, VolumesGo, laid_seen}
use Rattle.vx_grouped.specs.declared.group_site.GroupSite.{GroupSite}
use Rattle.vx_grouped.specs.declared.group_site.GroupSite.TheVariants.{Up, Deported, Down, Marked, Gone}
use Rattle.vx_grouped.specs.declared.idle.Idle.{Idle}
use Rattle.vx_grouped.specs.declared.laid.Laid.{Laid}
use Rattle.vx_diskset.specs.Aboves.{AboveStays, IsOutside, above_in, above_site, below_site, site_in}
use Rattle.vx_diskset.specs.DiskSets.{CrashedAt}
use Rattle.vx_history.specs.Steps.{worked}
use Rattle.vx_diskset.specs.Holds.{KeptBeside}
use Rattle.vx_diskset.specs.OverKeeps.{BelowGoes, KeepsOver, KeptBy, StaysAbove, StaysHere}
use Rattle.vx_diskset.specs.Stands.{AboveStands, IsHeldAt, IsOverSite, RoleBy}
use Rattle.vx_diskset.specs.declared.above.Above.{Above}
use Rattle.vx_diskset.specs.declared.above.Above.TheVariants.{Nothing, Origin, Receiver}
use Rattle.vx_diskset.specs.declared.disk_set.DiskSet.TheVariants.{Over}
use Rattle.vx_diskset.specs.declared.over_set.OverSet.{OverSet}
use Rattle.vx_diskset.specs.declared.over_set.OverSite.{OverSite}
use Rattle.vx_diskset.specs.declared.over_set.OverSite.TheVariants.{Origin as OriginSite, Receiver as ReceiverSite, Deported as GroupAway, Down as GroupFell, Gone as NoGroup}
use Rattle.vx_diskset.proofs.OverCrash.{over_fell}
use Rattle.vx_diskset.proofs.OverFrames.{OverUp, frame_held, frame_receiver, frame_up, fuse_gone, over_from, over_to, receiver_behind}
use Rattle.vx_diskset.proofs.Laying.{over_there}
use Rattle.vx_diskset.proofs.OverSettles.{fell_settles}

-- these blocks are none of these units
pub record AsideOf (mine : Blocks) (units : Units) : Type 0 where
  pub log : (b : ℕ) → mine units.srl b → ⊥
  pub maps : (b : ℕ) → mine units.maps b → ⊥
  pub vols : (v b : ℕ) → v < length units.vols → mine (unit_of units.vols v) b → ⊥

abbrev pub IsAside : Blocks → Above → Type 0
IsAside mine Nothing = Unit {0}
IsAside mine (Origin core) = AsideOf mine core.units
IsAside mine (Receiver core waiting) = AsideOf mine core.units

pub nowhere_aside : (a : Above) → IsAside Nowhere a
nowhere_aside Nothing = tt
nowhere_aside (Origin core) = record { log = λ b none. none; maps = λ b none. none; vols = λ v b low none. none }
nowhere_aside (Receiver core waiting) = record { log = λ b none. none; maps = λ b none. none; vols = λ v b low none. none }

-- of a volume outside none is a block of it
pub covers_aside : (volume block : ℕ) (bytes : List ℕ) (a : Above) → IsOutside volume a → IsAside (Covers volume block bytes) a
covers_aside volume block bytes Nothing out = tt
covers_aside volume block bytes (Origin core) out = record { log = λ b here. out.log (sym here.there); maps = λ b here. out.maps (sym here.there); vols = λ v b low here. out.vols v low (sym here.there) }
covers_aside volume block bytes (Receiver core waiting) out = record { log = λ b here. out.log (sym here.there); maps = λ b here. out.maps (sym here.there); vols = λ v b low here. out.vols v low (sym here.there) }

module _ {R : Type 0} {g : Ghosts R} where
  fell_idle : (x y : Idle R g) → ◌≡◌ {A = GroupSite R g} (Down x) (Down y) → x ≡ y
  fell_idle x y is = cc

  pub fell_site : (s : OverSite R g) (idle : Idle R g) → below_site s ≡ Down idle → s ≡ GroupFell idle
  fell_site (OriginSite f) idle is = absurd (cc)
  fell_site (ReceiverSite f) idle is = absurd (cc)
  fell_site (GroupAway x) idle is = absurd (cc)
  fell_site (GroupFell x) idle is = ap (λ (i : Idle R g). GroupFell i) (fell_idle x idle is)
  fell_site NoGroup idle is = absurd (cc)

module _ {R : Type 0} {g : Ghosts R} where
  -- over a group that is not up nothing stands
  role_off : (n : Node) (s : OverSite R g) → ((l : Laid R g) → below_site s ≡ Up l → ⊥) → RoleBy n (above_site s)
  role_off n (OriginSite f) never = absurd (never f.laid refl)
  role_off n (ReceiverSite f) never = absurd (never f.laid refl)
  role_off n (GroupAway idle) never = tt
  role_off n (GroupFell idle) never = tt
  role_off n NoGroup never = tt

  pub role_kept : (n : Node) (a : Above) (e : GroupSite R g) (s : OverSite R g) → below_site s ≡ e → StaysAbove a e (above_site s) → RoleBy n a → RoleBy n (above_site s)
  role_kept n a (Up laid) s at above role = subst (λ (x : Above). RoleBy n x) (sym above) role
  role_kept n a (Deported idle) s at above role = role_off n s (λ l is. let e : ◌≡◌ {A = GroupSite R g} (Up l) (Deported idle) = sym is ∙ at in cc)
  role_kept n a (Down idle) s at above role = role_off n s (λ l is. let e : ◌≡◌ {A = GroupSite R g} (Up l) (Down idle) = sym is ∙ at in cc)
  role_kept n a (Marked rack) s at above role = role_off n s (λ l is. let e : ◌≡◌ {A = GroupSite R g} (Up l) (Marked rack) = sym is ∙ at in cc)
  role_kept n a Gone s at above role = role_off n s (λ l is. let e : ◌≡◌ {A = GroupSite R g} (Up l) Gone = sym is ∙ at in cc)

module _ {R : Type 0} {g : Ghosts R} (laws : (s : Shade R) → Lawful (shade_meaning g.meaning s)) (racks : (s : Shade R) → IsRack (shade_meaning g.meaning s)) (mine : Blocks) where
  law : (l : Laid R g) → Lawful (laid_volumes l)
  law l = group_lawful (wide l.core) (shade_meaning g.meaning l.shelf) (laws l.shelf) l.stands.group.stands

  -- its volumes, as crashes leave each of their blocks by itself
  block_law : (l : Laid R g) → Lawful (laid_blockwise l)
  block_law l = alone_lawful (laid_volumes l) (law l)

  block_goes : (old new : Laid R g) → VolumesGo mine (laid_seen old) (laid_seen new) → VolumesGo mine (laid_blockwise old) (laid_blockwise new)
  block_goes old new goes = record { units = goes.units; size = goes.size; tells = goes.tells; reads = goes.reads; leaves = goes.leaves; falls = goes.falls; unarmed = goes.unarmed }

  -- what stood over it stands, whether the site runs or is halted
  stands_up : (beside : KeptBeside) (n : Node) (a : Above) (old new : Laid R g) → VolumesGo mine (laid_seen old) (laid_seen new) → AboveStays a (Up old) → IsAside mine a → IsOverSite beside n → IsFalse (laid_volumes new).down
      → OverUp beside n a (Up old) → AboveStands beside (worked n) a (laid_blockwise new)
  stands_up beside n Nothing old new goes sound aside over still it = absurd it
  stands_up beside n (Origin core) old new goes sound aside over still it =
      frame_up n core (laid_blockwise old) (laid_blockwise new) mine (block_goes old new goes) (sound_alone core (laid_volumes old) sound) over.0 over.1 (block_law old) (block_law new) (λ i each. each) aside.log aside.maps aside.vols still
      (fuse_gone n.fuse old new goes.unarmed it.fuse) it
  stands_up beside n (Receiver core waiting) old new goes sound aside over still it =
      frame_receiver n core (laid_blockwise old) (laid_blockwise new) mine (block_goes old new goes) (sound_alone core (laid_volumes old) sound.0) over.0 over.1 (block_law old) (block_law new) (λ i each. each) aside.log aside.maps aside.vols still
      (fuse_gone n.fuse old new goes.unarmed it.fuse) waiting it

  -- and a crash then leaves the site's writes
  held_mid : (beside : KeptBeside) (n : Node) (a : Above) (old new : Laid R g) → VolumesGo mine (laid_seen old) (laid_seen new) → AboveStays a (Up old) → IsAside mine a → IsOverSite beside n → OverUp beside n a (Up old) → IsHeldAt beside n (laid_blockwise new)
  held_mid beside n Nothing old new goes sound aside over it = absurd it
  held_mid beside n (Origin core) old new goes sound aside over it =
      frame_held n core (laid_blockwise old) (laid_blockwise new) mine (block_goes old new goes) (sound_alone core (laid_volumes old) sound) over.0 over.1 (block_law old) (block_law new) (λ i each. each) aside.log aside.maps aside.vols it
  held_mid beside n (Receiver core waiting) old new goes sound aside over it =
      receiver_behind n core (laid_blockwise old) (laid_blockwise new) mine (block_goes old new goes) (sound_alone core (laid_volumes old) sound.0) over.0 over.1 (block_law old) (block_law new) (λ i each. each) aside.log aside.maps aside.vols waiting it

  module _ (beside : KeptBeside) (n : Node) (a : Above) (new : OverSet R g) (aside : IsAside mine a) (over : IsOverSite beside n) where
    kept_by : (e e' : GroupSite R g) → site_in new ≡ e' → StaysAbove a e' (above_in new) → BelowGoes mine e e' → AboveStays a e → OverUp beside n a e → StaysHere e' → KeptBy beside n new e'
    kept_by (Up old) (Up mid) at above goes sound it here = (
      over_on beside n (worked n) refl refl refl refl over,
      over_from beside (worked n) new.site
          (subst (λ (x : GroupSite R g). OverUp beside (worked n) (above_in new) x) (sym at)
          (subst (λ (x : Above). AboveStands beside (worked n) x (laid_blockwise mid)) (sym above) (stands_up beside n a old mid goes sound aside over here it))),
    )
    kept_by (Up old) (Down idle) at above goes sound it here =
        subst (λ (x : OverSite R g). CrashedAt beside n (Over (record { site = x; cut = new.cut }))) (sym (fell_site new.site idle at))
        (let held : IsHeldAt beside n (laid_blockwise goes.mid) = held_mid beside n a old goes.mid goes.goes sound aside over it in
        over_fell n goes.mid idle (Member (wide goes.mid.core).good (laid_disks goes.mid)) over held goes.stopped (laws idle.rack) (racks idle.rack) goes.mid.stands.group.stands.kept (law goes.mid)
        (fell_settles goes.mid n idle goes.stopped (over_there n (laid_blockwise goes.mid) over.0 held.lies) goes.lacking) new.cut)
    kept_by (Up old) (Deported idle) at above goes sound it here = absurd here
    kept_by (Up old) (Marked rack) at above goes sound it here = absurd here
    kept_by (Up old) Gone at above goes sound it here = absurd here
    kept_by (Deported idle) e' at above goes sound it here = absurd it
    kept_by (Down idle) e' at above goes sound it here = absurd it
    kept_by (Marked rack) e' at above goes sound it here = absurd it
    kept_by Gone e' at above goes sound it here = absurd it

  -- so each such call leaves it
  pub keeps_below : (old new : OverSet R g) (a : Above) (e e' : GroupSite R g) → a ≡ above_in old → e ≡ site_in old → site_in new ≡ e' → StaysAbove a e' (above_in new) → BelowGoes mine e e' → AboveStays a e → IsAside mine a → KeepsOver old new
  keeps_below old new a e e' above_is site_is at above goes sound aside = record {
    each = λ beside n stands state here.
        let was : OverUp beside n (above_in old) (site_in old) = over_to beside n old.site state stands.1 in
        let it : OverUp beside n a e = subst (λ (x : GroupSite R g). OverUp beside n a x) (sym site_is) (subst (λ (x : Above). OverUp beside n x (site_in old)) (sym above_is) was) in
        subst (λ (x : GroupSite R g). KeptBy beside n new x) (sym at) (kept_by beside n a new aside stands.0 e e' at above goes sound it (subst (λ (x : GroupSite R g). StaysHere x) at here));
    above = λ n role. role_kept n a e' new.site at above (subst (λ (x : Above). RoleBy n x) (sym above_is) role);
  }

  -- one of a group that crashes as those do over which nothing stands
  goes_below : (e e' : GroupSite R g) → SiteGoes mine e e' → BelowGoes mine e e'
  goes_below (Up old) (Up new) goes = goes
  goes_below (Up old) (Deported idle) goes = tt
  goes_below (Up old) (Down idle) goes = record { mid = goes.mid; goes = goes.goes; stopped = goes.stopped; lacking = goes.lacking }
  goes_below (Up old) (Marked rack) goes = absurd goes
  goes_below (Up old) Gone goes = absurd goes
  goes_below (Deported idle) e' goes = goes
  goes_below (Down idle) e' goes = goes
  goes_below (Marked rack) e' goes = goes
  goes_below Gone e' goes = goes

  pub keeps_over : (old new : OverSet R g) (a : Above) (e e' : GroupSite R g) → a ≡ above_in old → e ≡ site_in old → site_in new ≡ e' → StaysAbove a e' (above_in new) → SiteGoes mine e e' → AboveStays a e → IsAside mine a → KeepsOver old new
  keeps_over old new a e e' above_is site_is at above goes sound aside = keeps_below old new a e e' above_is site_is at above (goes_below e e' goes) sound aside
