-- What an import leaves of the disks of a site that has a replicated volume group.
use Rattle.std.proofs.Common.{◌≡◌, subst, sym}
use Rattle.vx_disk.specs.declared.shelf.Shelf.{Ghosts}
use Rattle.vx_grouped.specs.GroupSites.{site_below, site_disks}
use Rattle.vx_diskset.specs.Aboves.{site_in}
use Rattle.vx_diskset.specs.Asked.{FuseGoesOn, SameFailing}
use Rattle.vx_diskset.specs.DiskSets.{Later}
use Rattle.vx_diskset.specs.Stands.{IsRackTold}
use Rattle.vx_watched.specs.Traces.{TellsLess}
use Rattle.vx_diskset.specs.GroupCalls.{AtSite}
use Rattle.vx_diskset.specs.Recovers.{RisesSince}
use Rattle.vx_diskset.specs.declared.disk_set.DiskSet.{DiskSet}
use Rattle.vx_diskset.specs.declared.disk_set.DiskSet.TheVariants.{Over}
use Rattle.vx_diskset.specs.declared.over_set.OverSet.{OverSet}
use Rattle.vx_diskset.proofs.GroupCalling.{IsSettled, OnGroup, at_both, failing_risen, fuse_risen, later_risen, on_group, told_behind}
use Rattle.vx_diskset.proofs.OverCalling.{has_over}

module _ {R : Type 0} {g : Ghosts R} (old new : DiskSet R g) (o : OverSet R g) (is : old ≡ Over o) (since : AtSite (λ e. RisesSince (site_disks (site_in o)) (site_disks e)) new) where
  now : OnGroup new (λ e. RisesSince (site_disks (site_in o)) (site_disks e))
  now = on_group (λ e. RisesSince (site_disks (site_in o)) (site_disks e)) new since

  pub over_failing : SameFailing old new
  over_failing = failing_risen old new (site_disks (site_in o)) (site_disks now.site) (has_over old o is) now.disks now.has

  pub over_fuse : AtSite IsSettled new → FuseGoesOn old new
  over_fuse at =
      let on = on_group (λ e. RisesSince (site_disks (site_in o)) (site_disks e) × IsSettled e) new (at_both (λ e. RisesSince (site_disks (site_in o)) (site_disks e)) IsSettled new since at) in
      fuse_risen old new (site_disks (site_in o)) (site_disks on.site) (has_over old o is) on.disks on.has.0 on.has.1.rack on.has.1.at

  pub over_later : AtSite (λ e. TellsLess (site_below (site_in o)) (site_below e)) new → Later old new
  over_later less = later_risen old new (site_disks (site_in o)) (site_disks now.site) (has_over old o is) now.disks now.has (λ told. subst (λ (x : DiskSet R g). IsRackTold x) (sym is) (told_behind (site_below (site_in o)) new less told))
