-- A group of disks that gets a replicated volume group: its log and its maps lie in volumes of the group, and its data volumes are others of them.
use Rattle.std.specs.Prelude.{ℕ, zero, suc, List, [], ◌∷◌, map, Option, Some, None}
use Rattle.vx_model.specs.Content.{Content, zero_block}
use Rattle.vx_model.specs.Sizes.{ring_of}
use Rattle.vx_history.specs.Fits.{blocks_of_volume}
use Rattle.vx_history.specs.Groups.{GroupNode}
use Rattle.vx_history.specs.World.{History, Node, Volume, World, with_history}
use Rattle.vx_history.specs.declared.volumes.DataVolume.{DataVolume}

abbrev pub as_volume : DataVolume → Volume
as_volume x = record { name = x.name; blocks = x.blocks }

-- what is noted of a block of the volume in this place of the group, and zeros where nothing is noted
abbrev pub noted_block : Option GroupNode → (place block : ℕ) → List ℕ
noted_block None place b = zero_block
noted_block (Some note) place b = note.bytes.block place b

-- a block of data volume v of these
abbrev pub data_block : Option GroupNode → List DataVolume → (v block : ℕ) → List ℕ
data_block group [] v b = zero_block
data_block group (x ∷ xs) zero b = noted_block group x.place b
data_block group (x ∷ xs) (suc v) b = data_block group xs v b

-- what the data volumes hold as they are made: what the group noted of them
abbrev pub data_content : Option GroupNode → List DataVolume → Content
data_content group xs = record { size = λ v. blocks_of_volume (map as_volume xs) v; block = λ v b. data_block group xs v b }

-- the site with these data volumes, and with a log in a volume of so many blocks
abbrev pub volumes_set : (log : ℕ) → List DataVolume → Node → Node
volumes_set log xs n = record n { ring = ring_of log; volumes = map as_volume xs; start = data_content n.group xs; base = data_content n.group xs }

-- a line that begins with this
abbrev pub starting_with : Content → History → History
starting_with content h = record h { start = content }

-- the line on which the site stands begins with what they hold
abbrev pub volumes_made : World → ℕ → (log : ℕ) → List DataVolume → World
volumes_made w s log xs =
    let n = w.nodes s in with_history w s (volumes_set log xs n) (starting_with (data_content n.group xs) (w.lines n.line))
