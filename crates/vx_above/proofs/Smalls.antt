-- A group of disks in memory has no more than a status shows.
use Rattle.std.proofs.Common.{◌≡◌, ap, subst, arith}
use Rattle.std.specs.Prelude.{Option, Some, None}
use Rattle.vx_disk.specs.Shelf.{Meaning}
use Rattle.vx_disk.specs.declared.shelf.Shelf.{Ghosts}
use Rattle.vx_config.specs.Checks.{plexes_or}
use Rattle.vx_config.specs.declared.config.Config.{Config}
use Rattle.vx_config.specs.declared.entry.VolumeEntry.{VolumeEntry}
use Rattle.vx_volume.proofs.PlaceLemmas.{count_few}
use Rattle.vx_group.specs.Holding.{GroupStands}
use Rattle.vx_group.specs.declared.group_core.GroupCore.{GroupCore}
use Rattle.vx_group.proofs.HoldLemmas.{narrow_sound}
use Rattle.vx_untold.specs.Shades.{shade_meaning}
use Rattle.vx_grouped.specs.GroupSites.{site_config}
use Rattle.vx_grouped.specs.declared.group_site.GroupSite.{GroupSite}
use Rattle.vx_grouped.specs.declared.group_site.GroupSite.TheVariants.{Up, Deported, Down, Marked, Gone}
use Rattle.vx_diskset.specs.Aboves.{site_in}
use Rattle.vx_diskset.specs.GroupCalls.{config_in}
use Rattle.vx_diskset.specs.declared.disk_set.DiskSet.{DiskSet}
use Rattle.vx_diskset.specs.declared.disk_set.DiskSet.TheVariants.{Bare, Spoiled, Up as RaisedSet, Receives, Down as DownSet, OfGroup, Over, Gone as GoneSet}
use Rattle.vx_events.proofs.Places.{some_same}
use Rattle.vx_above.specs.Views.{FitsViews, IsSmall}

fits_views : (core : GroupCore) (m : Meaning) → GroupStands core m → FitsViews core.inner.config
fits_views core m it = record { plexes = λ v entry at. omega (arith, count_few core.inner.config (narrow_sound core m it) v, ap (λ (o : Option VolumeEntry). plexes_or o) at) }

module _ {R : Type 0} {g : Ghosts R} where
  small_site : (s : GroupSite R g) (c : Config) → site_config s ≡ Some c → FitsViews c
  small_site (Up laid) c is = subst (λ (x : Config). FitsViews x) (some_same is) (fits_views laid.core (shade_meaning g.meaning laid.shelf) laid.stands.group)
  small_site (Deported idle) c is = absurd (cc)
  small_site (Down idle) c is = absurd (cc)
  small_site (Marked rack) c is = absurd (cc)
  small_site Gone c is = absurd (cc)

  -- the configuration that disks have in memory
  small_set : (e : DiskSet R g) (c : Config) → config_in e ≡ Some c → FitsViews c
  small_set (Bare rack) c is = absurd (cc)
  small_set (Spoiled rack) c is = absurd (cc)
  small_set (RaisedSet rvg) c is = absurd (cc)
  small_set (Receives s) c is = absurd (cc)
  small_set (DownSet rack) c is = absurd (cc)
  small_set (OfGroup s) c is = small_site s.site c is
  small_set (Over s) c is = small_site (site_in s) c is
  small_set GoneSet c is = absurd (cc)

  pub small_as : (e : DiskSet R g) (o : Option Config) → config_in e ≡ o → IsSmall o
  small_as e None is = tt
  small_as e (Some c) is = small_set e c is
