-- What a line does to a world in which some sites are over groups of disks: its first refusal, or its events and the way in which they end. In worlds
-- without groups it is what a line does there.
use Rattle.std.specs.Prelude.{◌≡◌, ◌⊎◌, ℕ, Bool, true, false, List, length, Option, Some, None, if◌then◌else◌}
use Rattle.vx_model.specs.declared.no.No.{No}
use Rattle.vx_model.specs.declared.site.SiteState.TheVariants.{Bare, Up}
use Rattle.vx_history.specs.Doubts.{Doubted}
use Rattle.vx_history.specs.Groups.{GroupNode}
use Rattle.vx_history.specs.World.{Node, World}
use Rattle.vx_order.specs.Order.{line_refusal}
use Rattle.vx_order.specs.Packets.{packet_unknown}
use Rattle.vx_order.specs.declared.facts.SiteFacts.{SiteFacts}
use Rattle.vx_script.specs.declared.line.ScriptLine.{ScriptLine}
use Rattle.vx_script.specs.declared.line.ScriptLine.TheVariants.{GroupInit, GroupDeport, GroupImport, Volume, PlexDetach, PlexAttach, Disk, Crash, Fuse, Recover, Write, Put, Read, Show, Status, Deliver}
use Rattle.vx_events.specs.Facts.{site_fact, site_number, values_from}
use Rattle.vx_events.specs.Fails.{Fails}
use Rattle.vx_events.specs.GroupEnds.{GroupEnds}
use Rattle.vx_events.specs.GroupLines.{is_over_group}
use Rattle.vx_events.specs.GroupNotes.{note_at}
use Rattle.vx_events.specs.GroupViews.{noted_table}
use Rattle.vx_events.specs.LinkedFacts.{linked_fact}
use Rattle.vx_events.specs.Lines.{IsDone, IsRefusedLine}
use Rattle.vx_events.specs.declared.said.Said.{Said}
use Rattle.vx_events.specs.declared.said.Said.TheVariants.{Resumed}

-- ---- what the tests of a line see

-- a site over a group: its volumes are the group's, and it has no replicated volume group
abbrev pub fact_of_group : Node → GroupNode → SiteFacts
fact_of_group n note = record (site_fact n) { grouped = true; volumes = noted_table note; rvg = None }

abbrev pub fact_over : World → ℕ → SiteFacts
fact_over w i = if is_over_group (w.nodes i) then fact_of_group (w.nodes i) (note_at (w.nodes i)) else linked_fact w i

-- the sites in the order of their numbers, with their links
abbrev pub facts_over : World → List SiteFacts
facts_over w = values_from (λ i. fact_over w i) 0 w.sites

-- the first refusal of a line before it works
abbrev pub refused_over : World → Bool → ScriptLine → Option No
refused_over w files (Deliver number) = packet_unknown (length w.packets) number
refused_over w files other = line_refusal (facts_over w) files other

-- ---- the lines of groups

-- the site of this name is over a group
abbrev pub over_group_at : World → List ℕ → Bool
over_group_at w site = is_over_group (w.nodes (site_number w site))

-- whether the line works on a group: one that makes it, or any that works on a site over one
abbrev pub is_for_group : World → ScriptLine → Bool
is_for_group w (GroupInit site) = true
is_for_group w (GroupDeport site) = over_group_at w site
is_for_group w (GroupImport site) = over_group_at w site
is_for_group w (Volume site volume blocks mirrors layout log map policy) = over_group_at w site
is_for_group w (PlexDetach site volume plex) = over_group_at w site
is_for_group w (PlexAttach site volume plex) = over_group_at w site
is_for_group w (Disk site disk state) = over_group_at w site
is_for_group w (Crash site pick) = over_group_at w site
is_for_group w (Fuse site calls pick) = over_group_at w site
is_for_group w (Recover site) = over_group_at w site
is_for_group w (Write site volume start count fill) = over_group_at w site
is_for_group w (Put site volume start bytes) = over_group_at w site
is_for_group w (Read site volume start count) = over_group_at w site
is_for_group w (Show site volume start count) = over_group_at w site
is_for_group w (Status site) = over_group_at w site
is_for_group w other = false

-- the site of such a line
abbrev pub group_place : World → ScriptLine → ℕ
group_place w (GroupInit site) = site_number w site
group_place w (GroupDeport site) = site_number w site
group_place w (GroupImport site) = site_number w site
group_place w (Volume site volume blocks mirrors layout log map policy) = site_number w site
group_place w (PlexDetach site volume plex) = site_number w site
group_place w (PlexAttach site volume plex) = site_number w site
group_place w (Disk site disk state) = site_number w site
group_place w (Crash site pick) = site_number w site
group_place w (Fuse site calls pick) = site_number w site
group_place w (Recover site) = site_number w site
group_place w (Write site volume start count fill) = site_number w site
group_place w (Put site volume start bytes) = site_number w site
group_place w (Read site volume start count) = site_number w site
group_place w (Show site volume start count) = site_number w site
group_place w (Status site) = site_number w site
group_place w other = 0

-- ---- lines

-- nothing is said of a write that was cut
abbrev pub ShowsNoCut : Said → Type 0
ShowsNoCut (Resumed view kept) = kept ≡ None
ShowsNoCut other = Unit {0}

-- a recovery of a bare site, of whose disks nothing is told, found a group that was kept on them, and it came up
pub record FindsKept (told : Type 0) (d : Doubted) (line : ScriptLine) (s : ℕ) (fails : Fails) (said : Said) (new : Doubted) : Type 0 where
  pub untold : told → ⊥
  pub site : List ℕ
  pub recovers : line ≡ Recover site
  pub bare : (d.world.nodes s).state ≡ Bare
  pub shows : ShowsNoCut said
  pub up : (new.world.nodes s).state ≡ Up
  pub ends : GroupEnds told d line s fails said new

-- a line that no test refuses: one that works on a group, or another
abbrev pub WorksOver : (group : Bool) → Type 0 → Doubted → ScriptLine → Fails → Said → Doubted → Type 0
WorksOver true told d line fails said new = GroupEnds told d line (group_place d.world line) fails said new
WorksOver false told d line fails said new = IsDone told d line fails said new ⊎ FindsKept told d line (group_place d.world line) fails said new

abbrev pub OverBy : Option No → (group : Bool) → Type 0 → Doubted → ScriptLine → Fails → Said → Doubted → Type 0
OverBy (Some why) group told d line fails said new = IsRefusedLine why d fails said new
OverBy None group told d line fails said new = WorksOver group told d line fails said new

-- The first refusal that holds in the one order is the reply, and nothing changes. Where there is none, the line works.
abbrev pub StepOver : Type 0 → Bool → Doubted → ScriptLine → Fails → Said → Doubted → Type 0
StepOver told files d line fails said new = OverBy (refused_over d.world files line) (is_for_group d.world line) told d line fails said new

-- a line that makes no group
abbrev pub MakesNoGroup : ScriptLine → Type 0
MakesNoGroup (GroupInit site) = ⊥
MakesNoGroup other = Unit {0}
