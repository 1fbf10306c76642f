-- What the tests of a line and the status of a site see of a disk group with a replicated volume group.
use Rattle.std.specs.Prelude.{ℕ, ◌+◌, ◌==◌, Bool, not, ◌&&◌, eqb, List, [], ◌∷◌, ◌++◌, map, length, slice_get, Option, Some, None, is_some, if◌then◌else◌}
use Rattle.std.specs.List.{list_any}
use Rattle.vx_model.specs.declared.units.Units.{Units}
use Rattle.vx_history.specs.Groups.{GroupNode}
use Rattle.vx_history.specs.World.{Node, Volume}
use Rattle.vx_config.specs.Checks.{blocks_of}
use Rattle.vx_config.specs.declared.config.Config.{Config}
use Rattle.vx_config.specs.declared.entry.VolumeEntry.{VolumeEntry}
use Rattle.vx_order.specs.declared.facts.VolumeFacts.{VolumeFacts}
use Rattle.vx_order.specs.declared.facts.VolumeKind.{VolumeKind}
use Rattle.vx_order.specs.declared.facts.VolumeKind.TheVariants.{Data, Srl, Map, Plain}
use Rattle.vx_report.specs.declared.view.SiteView.{SiteView}
use Rattle.vx_events.specs.Facts.{volume_fact}
use Rattle.vx_events.specs.GroupNotes.{note_at}
use Rattle.vx_events.specs.GroupViews.{config_of, noted_disks, noted_volumes, plain_fact, shown_up}
use Rattle.vx_events.specs.RvgFits.{entries_noted, entry_name, rvg_noted}

-- a site whose disks are a group, and that has a replicated volume group
abbrev pub is_over_rvg : Node → Bool
is_over_rvg n = is_some n.group && not (eqb (length n.volumes) 0)

-- ---- the volumes of a group: first the data volumes of its replicated volume group, by their numbers in it, then the others in the order of the group

abbrev pub plexes_in : Option VolumeEntry → ℕ
plexes_in None = 0
plexes_in (Some v) = length v.plexes

abbrev pub data_units : Option Units → List ℕ
data_units None = []
data_units (Some units) = units.vols

-- whether the volume in this place is a data volume
abbrev pub is_data_unit : List ℕ → (place : ℕ) → Bool
is_data_unit vols place = list_any (λ v. v == place) vols

-- what another one in this place is to a replicated volume group
abbrev pub kind_at : Units → (place : ℕ) → VolumeKind
kind_at units place = if place == units.srl then Srl else if place == units.maps then Map else Plain

-- the volume in this place
abbrev pub kinded : Units → (place : ℕ) → VolumeEntry → VolumeFacts
kinded units place v = record (plain_fact v) { kind = kind_at units place }

abbrev pub unless_data : (skips : Bool) → VolumeFacts → List VolumeFacts → List VolumeFacts
unless_data skips v vs = if skips then vs else v ∷ vs

-- the volumes that are no data volumes, of which the first is in this place
abbrev pub others_from : Units → (place : ℕ) → List VolumeEntry → List VolumeFacts
others_from units place [] = []
others_from units place (v ∷ vs) = unless_data (is_data_unit units.vols place) (kinded units place v) (others_from units (place + 1) vs)

abbrev pub others_by : Option Units → List VolumeEntry → List VolumeFacts
others_by None vs = map plain_fact vs
others_by (Some units) vs = others_from units 0 vs

abbrev pub others_of : Option Config → List VolumeFacts
others_of None = []
others_of (Some c) = others_by c.rvg c.volumes

-- the data volume in this place
abbrev pub data_seen : List VolumeEntry → (place : ℕ) → VolumeFacts
data_seen vs place = record { name = entry_name (slice_get vs place); blocks = blocks_of vs place; kind = Data; plexes = plexes_in (slice_get vs place) }

-- the volumes of a configuration
abbrev pub kinds_by : Option Units → List VolumeEntry → List VolumeFacts
kinds_by units vs = map (data_seen vs) (data_units units) ++ others_by units vs

abbrev pub kinds_of : Option Config → List VolumeFacts
kinds_of None = []
kinds_of (Some c) = kinds_by c.rvg c.volumes

-- the data volumes of a site, in these places of its group
abbrev pub data_facts : List VolumeEntry → (places : List ℕ) → List Volume → List VolumeFacts
data_facts vs places [] = []
data_facts vs [] (x ∷ xs) = volume_fact x ∷ data_facts vs [] xs
data_facts vs (p ∷ places) (x ∷ xs) = record (volume_fact x) { plexes = plexes_in (slice_get vs p) } ∷ data_facts vs places xs

-- the volumes of a site over such a group, by what it notes of it
abbrev pub over_table : Node → GroupNode → List VolumeFacts
over_table n note = data_facts (entries_noted note) (data_units (rvg_noted note)) n.volumes ++ others_of (config_of note.config)

-- the volumes of a site that is over no group without a replicated volume group
abbrev pub table_at : Node → List VolumeFacts
table_at n = if is_over_rvg n then over_table n (note_at n) else map volume_fact n.volumes

-- the status of a site with what it shows of the group below
abbrev pub over_disks : Node → GroupNode → SiteView → SiteView
over_disks n note view = record view { disks = shown_up n.state (noted_disks note); volumes = shown_up n.state (noted_volumes note) }
