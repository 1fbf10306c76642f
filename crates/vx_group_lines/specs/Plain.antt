-- The lines that go to a disk group, and of these such as write and read blocks of a volume.
use Rattle.std.specs.Prelude.{◌∷◌, ◌&&◌, ◌||◌, ◌≡◌, ℕ, ◌*◌, ◌<◌, ◌≤◌, Bool, true, false, List, [], length, Option, Some, None, Result, Ok, Err, not}
use Rattle.vx_model.specs.declared.limits.TheConstants.{BLOCK, MOST_CALL_BLOCKS}
use Rattle.vx_model.specs.declared.no.No.{No}
use Rattle.vx_disk.specs.declared.shelf.Shelf.{Ghosts}
use Rattle.vx_history.specs.Groups.{GroupNode}
use Rattle.vx_history.specs.Steps.{worked}
use Rattle.vx_history.specs.World.{Node, World}
use Rattle.vx_grouped.specs.GroupSites.{FitsPlain, UpNoted, site_disks}
use Rattle.vx_grouped.specs.Plain.{ReadsPlain}
use Rattle.vx_grouped.specs.SiteEnds.{PlainRead}
use Rattle.vx_grouped.specs.declared.group_site.GroupSite.{GroupSite}
use Rattle.vx_diskset.specs.Aboves.{site_in}
use Rattle.vx_diskset.specs.OverKeeps.{KeepsOver}
use Rattle.vx_diskset.specs.declared.over_set.OverSet.{OverSet}
use Rattle.vx_script.specs.declared.line.ScriptLine.{ScriptLine}
use Rattle.vx_script.specs.declared.line.ScriptLine.TheVariants.{GroupInit, GroupDeport, GroupImport, Volume, PlexDetach, PlexAttach, Rvg, Disk, Crash, Fuse, Recover, Status, Write as WriteLine, Put as PutLine, Read as ReadLine, Show as ShowLine}
use Rattle.vx_yard.specs.Working.{IsFree}
use Rattle.vx_yard.specs.declared.yard.Yard.{Yard}
use Rattle.vx_order.specs.Calls.{is_data}
use Rattle.vx_events.specs.RvgOver.{kind_named}
use Rattle.vx_events.specs.StepsOver.{over_group_at}
use Rattle.vx_events.specs.RvgSteps.{over_rvg_at}
use Rattle.vx_events.specs.Facts.{site_number}
use Rattle.vx_order.specs.declared.facts.VolumeFacts.{VolumeFacts}

-- whether lines of this kind write or read blocks
abbrev pub is_block_kind : ScriptLine → Bool
is_block_kind (WriteLine site volume start count fill) = true
is_block_kind (PutLine site volume start bytes) = true
is_block_kind (ReadLine site volume start count) = true
is_block_kind (ShowLine site volume start count) = true
is_block_kind other = false

-- whether lines of this kind go to no other site than one over a group, or one of which a group is made
abbrev pub is_group_line : ScriptLine → Bool
is_group_line (GroupInit site) = true
is_group_line (GroupDeport site) = true
is_group_line (GroupImport site) = true
is_group_line (Volume site volume blocks mirrors layout log map policy) = true
is_group_line (PlexDetach site volume plex) = true
is_group_line (PlexAttach site volume plex) = true
is_group_line (Rvg site srl maps volumes) = true
is_group_line other = false

-- whether a data volume stands first: so it is of a site with a replicated volume group, whose data volumes stand in front of its other volumes
abbrev pub starts_with_data : List VolumeFacts → Bool
starts_with_data [] = false
starts_with_data (v ∷ vs) = is_data v.kind

-- whether this volume is there, and no data volume
abbrev pub is_plain_volume : Option VolumeFacts → Bool
is_plain_volume None = false
is_plain_volume (Some v) = not (is_data v.kind)

-- whether the disks of the site of this name are a group, with a replicated volume group over it or not
abbrev pub grouped_at : World → List ℕ → Bool
grouped_at w site = over_group_at w site || over_rvg_at w site

-- whether the volume of this name is one of a group, and no data volume of a replicated volume group
abbrev pub plain_at : World → (site volume : List ℕ) → Bool
plain_at w site volume = over_group_at w site || (over_rvg_at w site && not (is_data (kind_named (w.nodes (site_number w site)) volume)))

-- whether the line goes to the group of its site
abbrev pub goes_to_group : World → ScriptLine → Bool
goes_to_group w (GroupInit site) = true
goes_to_group w (GroupDeport site) = true
goes_to_group w (GroupImport site) = true
goes_to_group w (Volume site volume blocks mirrors layout log map policy) = true
goes_to_group w (PlexDetach site volume plex) = true
goes_to_group w (PlexAttach site volume plex) = true
goes_to_group w (Rvg site srl maps volumes) = true
goes_to_group w (Recover site) = grouped_at w site
goes_to_group w (Status site) = over_group_at w site
goes_to_group w (WriteLine site volume start count fill) = plain_at w site volume
goes_to_group w (PutLine site volume start bytes) = plain_at w site volume
goes_to_group w (ReadLine site volume start count) = plain_at w site volume
goes_to_group w (ShowLine site volume start count) = plain_at w site volume
goes_to_group w (Disk site disk state) = over_group_at w site
goes_to_group w (Crash site pick) = over_group_at w site
goes_to_group w (Fuse site calls pick) = over_group_at w site
goes_to_group w other = false

-- whether lines of this kind may go to a group
abbrev pub is_group_kind : ScriptLine → Bool
is_group_kind (GroupInit site) = true
is_group_kind (GroupDeport site) = true
is_group_kind (GroupImport site) = true
is_group_kind (Volume site volume blocks mirrors layout log map policy) = true
is_group_kind (PlexDetach site volume plex) = true
is_group_kind (PlexAttach site volume plex) = true
is_group_kind (Rvg site srl maps volumes) = true
is_group_kind (Disk site disk state) = true
is_group_kind (Crash site pick) = true
is_group_kind (Fuse site calls pick) = true
is_group_kind (Recover site) = true
is_group_kind (Status site) = true
is_group_kind line = is_block_kind line

-- a line that reads so many blocks: a `read`, or a `show`, which over a group is the same
pub data IsReadOf (line : ScriptLine) (name volume : List ℕ) (start count : ℕ) : Type 0 where
  ByRead : line ≡ ReadLine name volume start count → IsReadOf line name volume start count
  ByShow : line ≡ ShowLine name volume start count → IsReadOf line name volume start count

-- room for so many blocks, as a line may ask for
pub record IsRoomFor (count : ℕ) (room : List ℕ) : Type 0 where
  pub some : 0 < count
  pub few : count ≤ MOST_CALL_BLOCKS
  pub size : length room ≡ BLOCK * count

module _ {R : Type 0} {g : Ghosts R} where
  -- so many blocks that a line may read, which no test refuses
  abbrev pub IsReadAt : Yard R g → List ℕ → List ℕ → ℕ → ℕ → Type 0
  IsReadAt y name volume start count = (line : ScriptLine) × IsReadOf line name volume start count × IsFree y line

  -- a run of blocks that a line may read, which no test refuses
  abbrev pub IsReadFree : Yard R g → List ℕ → List ℕ → ℕ → Type 0
  IsReadFree y name volume start = (line : ScriptLine) × (count : ℕ) × IsReadOf line name volume start count × IsFree y line

  -- the blocks of a read of a volume, or the disk that failed
  abbrev pub GavePlain : Node → GroupNode → (volume start : ℕ) → GroupSite R g → GroupSite R g → Result (List ℕ) No → Type 0
  GavePlain n note volume start old new (Ok bytes) = ReadsPlain note (site_disks old) volume start bytes × UpNoted (worked n) note new
  GavePlain n note volume start old new (Err why) = PlainRead n note volume start [] old new (Err why)

  -- so it is below a replicated volume group, of a place for so many bytes: what stood over the group stands
  pub record GaveBelow (volume start size : ℕ) (r : Result (List ℕ) No) (old new : OverSet R g) : Type 0 where
    pub gave : (n : Node) (note : GroupNode) → UpNoted n note (site_in old) → FitsPlain note volume start size → GavePlain n note volume start (site_in old) (site_in new) r
    pub cut : new.cut ≡ old.cut
    pub kept : KeepsOver old new
