-- What calls on a replicated volume group over a group make of the group.
use Rattle.std.proofs.Common.{◌≡◌, refl, subst, sym}
use Rattle.std.specs.Prelude.{Err, IfErr, None, Ok, Result}
use Rattle.vx_disk.specs.Racks.{IsRack}
use Rattle.vx_disk.specs.declared.shelf.Shelf.{Ghosts}
use Rattle.vx_history.specs.Groups.{GroupNode}
use Rattle.vx_history.specs.World.{Node}
use Rattle.vx_model.specs.declared.no.No.{No}
use Rattle.vx_model.specs.declared.no.No.TheVariants.{Device}
use Rattle.vx_untold.specs.Shades.{shade_meaning}
use Rattle.vx_untold.specs.declared.shade.Shade.{Shade}
use Rattle.vx_watched.specs.Since.{CalledSince}
use Rattle.vx_watched.specs.Traces.{TellsLess}
use Rattle.vx_grouped.specs.GroupSites.{UpNoted, laid_below, laid_disks, site_below, site_disks}
use Rattle.vx_grouped.specs.declared.group_site.GroupSite.TheVariants.{Up}
use Rattle.vx_diskset.specs.Blames.{BlamesSite}
use Rattle.vx_diskset.specs.DiskSets.{Later}
use Rattle.vx_diskset.specs.declared.disk_set.DiskSet.{DiskSet}
use Rattle.vx_diskset.specs.declared.disk_set.DiskSet.TheVariants.{Over}
use Rattle.vx_diskset.specs.Aboves.{IsInside, above_site, below_site}
use Rattle.vx_diskset.specs.Founded.{FoundedWorks}
use Rattle.vx_diskset.specs.Noted.{NotesWorked, OverCalled, below_rvg}
use Rattle.vx_diskset.specs.Stands.{KeepsRole, RoleBy}
use Rattle.vx_diskset.specs.declared.founded.Founded.{Founded}
use Rattle.vx_diskset.specs.declared.founded.FoundedReceiver.{FoundedReceiver}
use Rattle.vx_diskset.specs.declared.over_set.OverSet.{OverSet}
use Rattle.vx_diskset.specs.declared.over_set.OverSite.{OverSite}
use Rattle.vx_diskset.specs.declared.over_set.OverSite.TheVariants.{Origin as OriginSite, Receiver as ReceiverSite}
use Rattle.vx_diskset.proofs.OverNotes.{over_notes}

module _ {R : Type 0} {g : Ghosts R} (old : OverSet R g) (f f' : Founded R g) (is : old.site ≡ OriginSite f) (racks : (s : Shade R) → IsRack (shade_meaning g.meaning s)) (works : FoundedWorks f.core f.laid f'.core f'.laid) where
  origin_noted : (n : Node) (note : GroupNode) → UpNoted (below_rvg n) note (below_site old.site) → IsInside note (above_site old.site) → NotesWorked n note (below_site old.site) (Up f'.laid)
  origin_noted n note up inside =
      subst (λ (s : OverSite R g). NotesWorked n note (below_site s) (Up f'.laid)) (sym is)
      (over_notes n note f.core.units f.laid f'.laid racks (subst (λ (s : OverSite R g). UpNoted (below_rvg n) note (below_site s)) is up) works.ground works.since works.told works.moves
      (subst (λ (s : OverSite R g). IsInside note (above_site s)) is inside))

  pub origin_called : OverCalled old (record { site = OriginSite f'; cut = old.cut })
  origin_called = record {
    since = subst (λ (s : OverSite R g). CalledSince (site_disks (below_site s)) (laid_disks f'.laid)) (sym is) works.since;
    told = subst (λ (s : OverSite R g). TellsLess (site_below (below_site s)) (laid_below f'.laid)) (sym is) works.told;
    cut = refl;
    notes = origin_noted;
    above = λ n role. subst (λ (s : OverSite R g). RoleBy n (above_site s)) is role;
  }

module _ {R : Type 0} {g : Ghosts R} (old : OverSet R g) (f f' : FoundedReceiver R g) (is : old.site ≡ ReceiverSite f) (racks : (s : Shade R) → IsRack (shade_meaning g.meaning s)) (works : FoundedWorks f.core f.laid f'.core f'.laid) where
  receiver_noted : (n : Node) (note : GroupNode) → UpNoted (below_rvg n) note (below_site old.site) → IsInside note (above_site old.site) → NotesWorked n note (below_site old.site) (Up f'.laid)
  receiver_noted n note up inside =
      subst (λ (s : OverSite R g). NotesWorked n note (below_site s) (Up f'.laid)) (sym is)
      (over_notes n note f.core.units f.laid f'.laid racks (subst (λ (s : OverSite R g). UpNoted (below_rvg n) note (below_site s)) is up) works.ground works.since works.told works.moves
      (subst (λ (s : OverSite R g). IsInside note (above_site s)) is inside))

  pub receiver_called : OverCalled old (record { site = ReceiverSite f'; cut = old.cut })
  receiver_called = record {
    since = subst (λ (s : OverSite R g). CalledSince (site_disks (below_site s)) (laid_disks f'.laid)) (sym is) works.since;
    told = subst (λ (s : OverSite R g). TellsLess (site_below (below_site s)) (laid_below f'.laid)) (sym is) works.told;
    cut = refl;
    notes = receiver_noted;
    above = λ n role. tt;
  }

-- ---- the same of disk sets

-- a refusal of a site over a group names any disk
blames_over : (n : Node) (why : No) → (n.group ≡ None → ⊥) → BlamesSite n why
blames_over n (Device disk) over = λ none. absurd (over none)
blames_over n other over = tt

pub blamed_over : {T : Type 0} (r : Result T No) (n : Node) → (n.group ≡ None → ⊥) → IfErr r (λ why. BlamesSite n why)
blamed_over (Ok x) n over = tt
blamed_over (Err why) n over = blames_over n why over

module _ {R : Type 0} {g : Ghosts R} (e : DiskSet R g) (old new : OverSet R g) (is : e ≡ Over old) (called : OverCalled old new) where
  pub over_role : KeepsRole e (Over new)
  over_role = subst (λ (x : DiskSet R g). KeepsRole x (Over new)) (sym is) (record { kept = called.above })

  pub over_later : Later e (Over new)
  over_later = subst (λ (x : DiskSet R g). Later x (Over new)) (sym is) (record { counts = called.since.counts; told = called.told })
