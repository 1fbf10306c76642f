-- What the tests of a line and the status of a site see of a group of disks: it is read of the bytes that the site notes as its configuration.
use Rattle.std.specs.Prelude.{ℕ, Bool, not, List, [], map, length, Option, Some, None, is_some, Ok, Err}
use Rattle.vx_model.specs.declared.site.PlexState.{PlexState}
use Rattle.vx_model.specs.declared.site.SiteState.{SiteState}
use Rattle.vx_model.specs.declared.site.SiteState.TheVariants.{Bare, Up, Deported, Down}
use Rattle.vx_history.specs.Groups.{GroupNode}
use Rattle.vx_history.specs.World.{Node}
use Rattle.vx_config.specs.Forms.{Reading}
use Rattle.vx_config.specs.Table.{config}
use Rattle.vx_config.specs.declared.config.Config.{Config}
use Rattle.vx_config.specs.declared.entry.DiskEntry.{DiskEntry}
use Rattle.vx_config.specs.declared.entry.PlexEntry.{PlexEntry}
use Rattle.vx_config.specs.declared.entry.VolumeEntry.{VolumeEntry}
use Rattle.vx_order.specs.declared.facts.VolumeFacts.{VolumeFacts}
use Rattle.vx_order.specs.declared.facts.VolumeKind.TheVariants.{Plain}
use Rattle.vx_report.specs.declared.view.SiteView.{SiteView}
use Rattle.vx_report.specs.declared.view.VolumeView.{VolumeView}

-- the configuration that stands at the front of what was read
abbrev pub read_front : Reading Config → Option Config
read_front (Ok found) = Some found.0
read_front (Err left) = None

-- the configuration that these bytes spell, if they spell one
abbrev pub config_of : List ℕ → Option Config
config_of bytes = read_front (config.read bytes)

-- whether a disk is held as good
abbrev pub is_ok : DiskEntry → Bool
is_ok disk = not disk.failed

abbrev pub state_of_plex : PlexEntry → PlexState
state_of_plex plex = plex.state

-- a volume as a status shows it
abbrev pub volume_view : VolumeEntry → VolumeView
volume_view v = record { name = v.name; blocks = v.blocks; drl = is_some v.drl; fmr = is_some v.fmr; plexes = map state_of_plex v.plexes }

-- a volume outside a replicated volume group as the tests of a line see it
abbrev pub plain_fact : VolumeEntry → VolumeFacts
plain_fact v = record { name = v.name; blocks = v.blocks; kind = Plain; plexes = length v.plexes }

abbrev pub config_disks : Option Config → List Bool
config_disks None = []
config_disks (Some c) = map is_ok c.disks

abbrev pub volumes_of : Option Config → List VolumeEntry
volumes_of None = []
volumes_of (Some c) = c.volumes

-- the disks of a group in order, each true where it is held as good
abbrev pub noted_disks : GroupNode → List Bool
noted_disks note = config_disks (config_of note.config)

-- the volumes of a group in order
abbrev pub noted_volumes : GroupNode → List VolumeView
noted_volumes note = map volume_view (volumes_of (config_of note.config))

-- and what the tests of a line see of them
abbrev pub noted_table : GroupNode → List VolumeFacts
noted_table note = map plain_fact (volumes_of (config_of note.config))

-- only a site that is up shows its disks and its volumes
abbrev pub shown_up : {A : Type 0} → SiteState → List A → List A
shown_up Bare xs = []
shown_up Up xs = xs
shown_up Deported xs = []
shown_up Down xs = []

-- the status of a site over a group without a replicated volume group
abbrev pub grouped_view : Node → GroupNode → SiteView
grouped_view n note = record {
  name = n.name;
  state = n.state;
  disks = shown_up n.state (noted_disks note);
  volumes = shown_up n.state (noted_volumes note);
  rvg = None;
  links = [];
}
