-- How a site over a group of disks with a replicated volume group fits the configuration of its group.
use Rattle.std.specs.Prelude.{◌≡◌, ℕ, ◌<◌, List, [], map, Option, Some, None, slice_get}
use Rattle.std.specs.List.{AllByRecursion}
use Rattle.vx_model.specs.declared.site.Role.TheVariants.{Primary}
use Rattle.vx_model.specs.declared.site.SiteState.TheVariants.{Up}
use Rattle.vx_model.specs.Sizes.{ring_of}
use Rattle.vx_model.specs.declared.units.Units.{Units}
use Rattle.vx_config.specs.Checks.{blocks_of}
use Rattle.vx_config.specs.declared.config.Config.{Config}
use Rattle.vx_config.specs.declared.entry.VolumeEntry.{VolumeEntry}
use Rattle.vx_history.specs.Groups.{GroupNode}
use Rattle.vx_history.specs.Volumes.{as_volume}
use Rattle.vx_history.specs.World.{Node, World}
use Rattle.vx_history.specs.declared.volumes.DataVolume.{DataVolume}
use Rattle.vx_events.specs.GroupNotes.{note_at}
use Rattle.vx_events.specs.GroupViews.{config_of, volumes_of}

-- the name of a volume
abbrev pub entry_name : Option VolumeEntry → List ℕ
entry_name None = []
entry_name (Some volume) = volume.name

-- the volume in this place of a group as a data volume
abbrev pub data_at : List VolumeEntry → (place : ℕ) → DataVolume
data_at volumes place = record { place = place; name = entry_name (slice_get volumes place); blocks = blocks_of volumes place }

-- the data volumes of a replicated volume group on these units
abbrev pub data_of : List VolumeEntry → Units → List DataVolume
data_of volumes units = map (data_at volumes) units.vols

-- the replicated volume group of a configuration
abbrev pub config_rvg : Option Config → Option Units
config_rvg None = None
config_rvg (Some c) = c.rvg

-- that of a group, as it is noted
abbrev pub rvg_noted : GroupNode → Option Units
rvg_noted note = config_rvg (config_of note.config)

-- the volumes of a group, as they are noted
abbrev pub entries_noted : GroupNode → List VolumeEntry
entries_noted note = volumes_of (config_of note.config)

-- The site has the replicated volume group of this configuration, on these units: its data volumes are volumes of the group, and its log lies in another one.
pub record FitsRvg (n : Node) (c : Config) (units : Units) : Type 0 where
  pub rvg : c.rvg ≡ Some units
  pub volumes : n.volumes ≡ map as_volume (data_of c.volumes units)
  pub ring : n.ring ≡ ring_of (blocks_of c.volumes units.srl)

-- the site has the replicated volume group of this configuration
abbrev pub FitsSome : Node → Config → Type 0
FitsSome n c = (units : Units) × FitsRvg n c units

-- a volume stands in this place
abbrev pub HasVolume : List VolumeEntry → (place : ℕ) → Type 0
HasVolume volumes place = (e : VolumeEntry) × (slice_get volumes place ≡ Some e)

-- the log and the data volumes are volumes of the group
pub record HasUnits (volumes : List VolumeEntry) (units : Units) : Type 0 where
  pub srl : HasVolume volumes units.srl
  pub vols : AllByRecursion (HasVolume volumes) units.vols

-- the site has the replicated volume group of the configuration that it notes
pub record FitsNoted (n : Node) : Type 0 where
  pub config : Config
  pub is : config_of (note_at n).config ≡ Some config
  pub units : Units
  pub fits : FitsRvg n config units
  pub has : HasUnits config.volumes units

-- ---- what lines keep of a configuration

-- a volume stands there still, with its name and its blocks
pub record KeptVolume (e : VolumeEntry) (o : Option VolumeEntry) : Type 0 where
  pub now : VolumeEntry
  pub is : o ≡ Some now
  pub name : now.name ≡ e.name
  pub blocks : now.blocks ≡ e.blocks

-- d has the replicated volume group of c, and the volumes of c
pub record KeepsRvg (c d : Config) : Type 0 where
  pub rvg : d.rvg ≡ c.rvg
  pub volumes : (v : ℕ) (e : VolumeEntry) → slice_get c.volumes v ≡ Some e → KeptVolume e (slice_get d.volumes v)

-- a note has a configuration that has those of c
pub record KeptConfig (c : Config) (note : GroupNode) : Type 0 where
  pub now : Config
  pub is : config_of note.config ≡ Some now
  pub keeps : KeepsRvg c now

-- the configuration that is noted has those of the one that was noted before
abbrev pub NoteKeepsRvg : (note next : GroupNode) → Type 0
NoteKeepsRvg note next = (c : Config) → config_of note.config ≡ Some c → KeptConfig c next

-- ---- sites that may get one

-- a site over a group of disks that runs, without a replicated volume group
pub record MayGetRvg (w : World) (s : ℕ) : Type 0 where
  pub below : s < w.sites
  pub up : (w.nodes s).state ≡ Up
  pub running : (w.nodes s).halted ≡ None
  pub role : (w.nodes s).role ≡ Primary
  pub volumes : (w.nodes s).volumes ≡ []
  pub log : (w.nodes s).log ≡ []
