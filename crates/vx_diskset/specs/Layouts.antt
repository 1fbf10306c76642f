-- How the replicated volume group of a site lies on the units of a shelf: that of a raw set on its disks, and one over a group of disks on the volumes of that.
use Rattle.std.specs.Prelude.{◌≡◌, ℕ, ◌-◌, ◌*◌, ◌<◌, ◌≤◌, true, List, length, Option, None, Some, slice_get}
use Rattle.vx_model.specs.declared.limits.TheConstants.{LEAST_BLOCKS, LINK_PLACES, MOST_DATA_VOLUMES, MOST_DISKS}
use Rattle.vx_model.specs.Sizes.{map_blocks, ring_of}
use Rattle.vx_model.specs.declared.units.Units.{Units}
use Rattle.vx_history.specs.Groups.{GroupNode}
use Rattle.vx_history.specs.World.{Node, Volume}
use Rattle.vx_config.specs.declared.config.Config.{Config}
use Rattle.vx_disk.specs.Shelf.{Meaning}
use Rattle.vx_rvg.specs.Starts.{Room}
use Rattle.vx_rvg.specs.Views.{unit_of}
use Rattle.vx_events.specs.Facts.{values_from}
use Rattle.vx_events.specs.GroupViews.{config_of}
use Rattle.vx_events.specs.RvgNotes.{inside_of}

-- the units of a raw set: its log on disk 0, its maps on the last disk, and a volume on each disk between
abbrev pub raw_units : ℕ → Units
raw_units disks = record { srl = 0; maps = disks - 1; vols = values_from (λ k. k) 1 (disks - 2) }

-- those that a configuration names; those of no disk, where it names none
abbrev pub units_or : Option Units → Units
units_or None = raw_units 0
units_or (Some units) = units

abbrev pub config_units : Option Config → Units
config_units None = raw_units 0
config_units (Some c) = units_or c.rvg

-- the units of a site with so many disks: those that the configuration of its group names, which it notes, or those of a raw set
abbrev pub units_by : Option GroupNode → (disks : ℕ) → Units
units_by None disks = raw_units disks
units_by (Some note) disks = config_units (config_of note.config)

abbrev pub units_of : Node → Units
units_of n = units_by n.group n.disks

-- On these units, of so many blocks each, lie a log with so many ring blocks and these volumes, each with as many blocks as its name and its content have.
pub record IsLaidBy (u : Units) (ring : ℕ) (volumes : List Volume) (sizes : ℕ → ℕ) (size : ℕ → ℕ) : Type 0 where
  pub large : LEAST_BLOCKS ≤ size u.srl
  pub ring_is : ring ≡ ring_of (size u.srl)
  pub some : 1 ≤ length volumes
  pub few : length volumes ≤ MOST_DATA_VOLUMES
  pub count : length u.vols ≡ length volumes
  pub named : (v : ℕ) (x : Volume) → slice_get volumes v ≡ Some x → sizes v ≡ x.blocks
  pub each : (v : ℕ) → v < length volumes → sizes v ≡ size (unit_of u.vols v)
  pub none : (v : ℕ) → length volumes ≤ v → sizes v ≡ 0

-- the same on the units of a shelf
abbrev pub IsLaid : Units → ℕ → List Volume → (ℕ → ℕ) → Meaning → Type 0
IsLaid u ring volumes sizes m = IsLaidBy u ring volumes sizes m.size

-- so many disks of so many blocks can be a raw set: the last has room for the maps of the volumes between
pub record CanBeRaw (disks blocks : ℕ) : Type 0 where
  pub some : 3 ≤ disks
  pub maps : LINK_PLACES * (disks - 2) * map_blocks blocks ≤ blocks

-- the blocks of change maps for which a start of a raw set on disks of so many blocks has room: as many as the most volumes take
abbrev pub maps_room : ℕ → ℕ
maps_room blocks = LINK_PLACES * (MOST_DISKS - 2) * map_blocks blocks

-- memory for the start of a raw set on disks of so many blocks, whose log has so many ring blocks
pub record IsRoomOf (blocks ring : ℕ) (room : Room) : Type 0 where
  pub ring_is : room.ring ≡ ring
  pub maps_are : maps_room blocks ≤ room.maps

-- so many disks of so many blocks, each of them a unit of the shelf, with a raw set on them
pub record IsRaw (disks blocks ring : ℕ) (volumes : List Volume) (sizes : ℕ → ℕ) (m : Meaning) : Type 0 where
  pub units : m.units ≡ disks
  pub size : (u : ℕ) → u < disks → m.size u ≡ blocks
  pub can : CanBeRaw disks blocks
  pub few : disks ≤ MOST_DISKS
  pub laid : IsLaid (raw_units disks) ring volumes sizes m

-- so lies a raw set
abbrev pub LiesRaw : Node → Meaning → Type 0
LiesRaw n m = IsRaw n.disks n.blocks n.ring n.volumes n.base.size m

-- On the volumes of a group a replicated volume group on these of them, each of which is there.
pub record IsOver (u : Units) (ring : ℕ) (volumes : List Volume) (sizes : ℕ → ℕ) (m : Meaning) : Type 0 where
  pub laid : IsLaid u ring volumes sizes m
  pub there : (k : ℕ) → inside_of u k ≡ true → k < m.units

-- a raw set, or one over a group, with volumes of these sizes
abbrev pub LiesBy : Option GroupNode → (disks blocks ring : ℕ) → List Volume → (ℕ → ℕ) → Meaning → Type 0
LiesBy None disks blocks ring volumes sizes m = IsRaw disks blocks ring volumes sizes m
LiesBy (Some note) disks blocks ring volumes sizes m = IsOver (config_units (config_of note.config)) ring volumes sizes m

-- the same of a site
abbrev pub LiesOn : Node → Meaning → Type 0
LiesOn n m = LiesBy n.group n.disks n.blocks n.ring n.volumes n.base.size m
