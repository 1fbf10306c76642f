-- A group of two disks with a log, maps and one data volume, each on both disks, that has a replicated volume group: what the tests see of it, what its site is, and
-- what a status shows behind a write, a crash and a recovery.
use Rattle.std.proofs.Common.{◌≡◌, ℕ, false, List, [], ◌∷◌, map, refl}
use Rattle.std.specs.Prelude.{None, Some, codes, replicate}
use Rattle.std.specs.Fmt.{digits}
use Rattle.vx_model.specs.declared.site.PlexState.TheVariants.{Active}
use Rattle.vx_model.specs.declared.units.Units.{Units}
use Rattle.vx_history.specs.Step.{run}
use Rattle.vx_history.specs.World.{World, empty_world}
use Rattle.vx_history.specs.declared.event.Event.TheVariants.{Site, Group, Volumes, Write, Crash, Recover}
use Rattle.vx_history.specs.declared.volumes.DataVolume.{DataVolume}
use Rattle.vx_config.specs.Checks.{blocks_of}
use Rattle.vx_config.specs.declared.config.Config.{Config}
use Rattle.vx_config.specs.declared.entry.PlexEntry.{PlexEntry}
use Rattle.vx_config.specs.declared.entry.VolumeEntry.{VolumeEntry}
use Rattle.vx_order.specs.declared.facts.VolumeFacts.{VolumeFacts}
use Rattle.vx_order.specs.declared.facts.VolumeKind.{VolumeKind}
use Rattle.vx_order.specs.declared.facts.VolumeKind.TheVariants.{Data, Map, Srl}
use Rattle.vx_report.specs.Statuses.{link_way, rvg_text, status_text, volume_line}
use Rattle.vx_report.specs.declared.view.SiteView.{SiteView}
use Rattle.vx_events.specs.GroupViews.{config_disks, volume_view, volumes_of}
use Rattle.vx_events.specs.LinkViews.{linked_view}
use Rattle.vx_events.specs.RvgFits.{FitsRvg, data_of}
use Rattle.vx_events.specs.RvgViews.{kinds_of}

-- the names of the site and of the volumes
abbrev site_name : List ℕ
site_name = 97 ∷ []

abbrev log_name : List ℕ
log_name = 108 ∷ 111 ∷ 103 ∷ 49 ∷ []

abbrev maps_name : List ℕ
maps_name = 109 ∷ 97 ∷ 112 ∷ 115 ∷ []

abbrev data_name : List ℕ
data_name = 118 ∷ []

-- ---- the configuration

abbrev plex_on : (disk start blocks : ℕ) → PlexEntry
plex_on disk start blocks = record { state = Active; whole = false; subdisks = record { disk = disk; start = start; blocks = blocks } ∷ [] }

abbrev mirrored : List ℕ → (start blocks : ℕ) → VolumeEntry
mirrored name start blocks = record {
  name = name;
  blocks = blocks;
  ncol = 1;
  width = 0;
  prefer = None;
  drl = None;
  fmr = None;
  plexes = plex_on 0 start blocks ∷ plex_on 1 start blocks ∷ [];
}

abbrev units : Units
units = record { srl = 0; maps = 1; vols = 2 ∷ [] }

abbrev c : Config
c = record {
  serial = 5;
  site = 0;
  disks = record { blocks = 1024; failed = false } ∷ record { blocks = 1024; failed = false } ∷ [];
  volumes = mirrored log_name 512 64 ∷ mirrored maps_name 576 8 ∷ mirrored data_name 584 256 ∷ [];
  rvg = Some units;
}

-- ---- what is seen of it

abbrev seen : List ℕ → ℕ → VolumeKind → VolumeFacts
seen name blocks kind = record { name = name; blocks = blocks; kind = kind; plexes = 2 }

kinds_row : kinds_of (Some c) ≡ seen data_name 256 Data ∷ seen log_name 64 Srl ∷ seen maps_name 8 Map ∷ []
kinds_row = refl

abbrev data_volume : DataVolume
data_volume = record { place = 2; name = data_name; blocks = 256 }

data_row : data_of c.volumes units ≡ data_volume ∷ []
data_row = refl

-- ---- the site

abbrev worked : World
worked = run empty_world
    (Site site_name 2 1024 ∷ Group 0 ∷ Volumes 0 (blocks_of c.volumes units.srl) (data_of c.volumes units) ∷ Write 0 0 0 (replicate 512 17) None ∷ Crash 0 0 ∷ Recover 0 None ∷ [])

site_row : FitsRvg (worked.nodes 0) c units
site_row = record { rvg = refl; volumes = refl; ring = refl }

-- its status, with what is shown of the group
abbrev shown : SiteView
shown = record (linked_view worked 0) { disks = config_disks (Some c); volumes = map volume_view (volumes_of (Some c)) }

status_row : status_text shown
    ≡ codes "site a up\ndisk 0 ok\ndisk 1 ok\nvol log1 64 none off\nplex 0 ACTIVE\nplex 1 ACTIVE\nvol maps 8 none off\nplex 0 ACTIVE\nplex 1 ACTIVE\nvol v 256 none off\nplex 0 ACTIVE\nplex 1 ACTIVE\nrvg primary 1 a head 1 mark consistent session 2\n"
unfolding digits status_text rvg_text link_way volume_line
status_row = refl
