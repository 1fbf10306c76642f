-- What a status shows of a group of disks.
use Rattle.std.specs.Prelude.{◌≡◌, ◌≤◌, ℕ, Bool, List, [], length, map, Option, Some, None, slice_get}
use Rattle.vx_disk.specs.declared.shelf.Shelf.{Ghosts}
use Rattle.vx_config.specs.declared.config.Config.{Config}
use Rattle.vx_config.specs.declared.entry.VolumeEntry.{VolumeEntry}
use Rattle.vx_diskset.specs.GroupCalls.{config_in}
use Rattle.vx_diskset.specs.declared.disk_set.DiskSet.{DiskSet}
use Rattle.vx_events.specs.GroupViews.{config_disks, volume_view, volumes_of}
use Rattle.vx_model.specs.declared.limits.TheConstants.{MOST_PLEXES}
use Rattle.vx_order.specs.declared.facts.SiteFacts.{SiteFacts}
use Rattle.vx_report.specs.declared.view.LinkView.{LinkView}
use Rattle.vx_report.specs.declared.view.SiteView.{SiteView}
use Rattle.vx_report.specs.declared.view.VolumeView.{VolumeView}
use Rattle.vx_yard.specs.declared.yard.Yard.{Yard}
use Rattle.vx_above.specs.Seen.{group_at}

-- no more plexes of a volume than a group may have
pub record FitsViews (c : Config) : Type 0 where
  pub plexes : (v : ℕ) (entry : VolumeEntry) → slice_get c.volumes v ≡ Some entry → length entry.plexes ≤ MOST_PLEXES

abbrev pub IsSmall : Option Config → Type 0
IsSmall None = Unit {0}
IsSmall (Some c) = FitsViews c

-- a site in this session, with these links, that shows these disks and volumes of the group below its replicated volume group
abbrev pub full_seen : List SiteFacts → ℕ → SiteFacts → List Bool → List VolumeView → List LinkView → SiteView
full_seen sites session site disks volumes links = record {
  name = site.name;
  state = site.state;
  disks = disks;
  volumes = volumes;
  rvg = group_at site.state sites session site.rvg;
  links = links;
}

-- one without a replicated volume group, and without links
abbrev pub plain_seen : SiteFacts → List Bool → List VolumeView → SiteView
plain_seen site disks volumes = record { name = site.name; state = site.state; disks = disks; volumes = volumes; rvg = None; links = [] }

module _ {R : Type 0} {g : Ghosts R} where
  -- a site of which the tests see no replicated volume group shows what the configuration has that its disks have in memory
  abbrev pub ShowsPlain : Yard R g → (s : ℕ) → SiteView → Type 0
  ShowsPlain y s view = (f : SiteFacts) (e : DiskSet R g) → slice_get y.facts.items s ≡ Some f → slice_get y.disk_sets.items s ≡ Some e → f.rvg ≡ None
      → view ≡ plain_seen f (config_disks (config_in e)) (map volume_view (volumes_of (config_in e)))
