-- The events of a line at a site over a group of disks without a replicated volume group, and what it notes.
use Rattle.std.specs.Prelude.{ℕ, Bool, true, false, ◌&&◌, eqb, List, [], ◌∷◌, ◌++◌, length, Option, Some, None, is_some, unwrap_or}
use Rattle.vx_model.specs.declared.site.SiteState.{SiteState}
use Rattle.vx_model.specs.declared.site.SiteState.TheVariants.{Bare, Up, Deported, Down}
use Rattle.vx_history.specs.Groups.{GroupNode}
use Rattle.vx_history.specs.Steps.{fused, worked_on}
use Rattle.vx_history.specs.World.{Node, World, NoFuse, with_node}
use Rattle.vx_history.specs.declared.event.Event.{Event}
use Rattle.vx_history.specs.declared.event.Event.TheVariants.{Crash as CrashAt, Deport as DeportAt, Group as GroupAt}
use Rattle.vx_layout.specs.declared.shape.Shape.{Shape}
use Rattle.vx_script.specs.declared.line.Layout.{Layout}
use Rattle.vx_script.specs.declared.line.Layout.TheVariants.{Concat, Stripe}
use Rattle.vx_script.specs.declared.line.ReadPolicy.{ReadPolicy}
use Rattle.vx_script.specs.declared.line.ReadPolicy.TheVariants.{Round, Prefer}
use Rattle.vx_script.specs.declared.line.ScriptLine.{ScriptLine}
use Rattle.vx_script.specs.declared.line.ScriptLine.TheVariants.{GroupInit, GroupDeport, GroupImport, Volume, PlexDetach, PlexAttach, Disk, Crash, Fuse, Recover, Write as WriteLine, Put, Read, Show}
use Rattle.vx_script.specs.declared.line.VolumeLog.{VolumeLog}
use Rattle.vx_script.specs.declared.line.VolumeLog.TheVariants.{NoLog, Drl}
use Rattle.vx_script.specs.declared.line.VolumeMap.{VolumeMap}
use Rattle.vx_script.specs.declared.line.VolumeMap.TheVariants.{NoMap, Fmr}
use Rattle.vx_events.specs.Facts.{place_of}
use Rattle.vx_events.specs.Failing.{is_failing, made_fail}
use Rattle.vx_events.specs.GroupViews.{noted_table}

-- a site whose disks are a group, and that has no replicated volume group
abbrev pub is_over_group : Node → Bool
is_over_group n = is_some n.group && eqb (length n.volumes) 0

-- ---- the words of a line

abbrev pub layout_columns : Layout → ℕ
layout_columns Concat = 1
layout_columns (Stripe columns width) = columns

abbrev pub layout_width : Layout → ℕ
layout_width Concat = 0
layout_width (Stripe columns width) = width

abbrev pub has_drl : VolumeLog → Bool
has_drl NoLog = false
has_drl Drl = true

abbrev pub has_fmr : VolumeMap → Bool
has_fmr NoMap = false
has_fmr Fmr = true

abbrev pub preferred_plex : ReadPolicy → Option ℕ
preferred_plex Round = None
preferred_plex (Prefer plex) = Some plex

-- the volume that a line asks for
abbrev pub shape_of : (blocks mirrors : ℕ) → Layout → VolumeLog → VolumeMap → ReadPolicy → Shape
shape_of blocks mirrors layout log map policy = record {
  blocks = blocks;
  mirrors = mirrors;
  ncol = layout_columns layout;
  width = layout_width layout;
  drl = has_drl log;
  fmr = has_fmr map;
  prefer = preferred_plex policy;
}

-- the number of the volume of this name in the group
abbrev pub plain_number : GroupNode → List ℕ → ℕ
plain_number note name = unwrap_or (place_of (noted_table note) name) 0

-- ---- events

-- a site that is up crashes before it is recovered
abbrev pub group_recovery : SiteState → (site : ℕ) → List Event
group_recovery Bare s = GroupAt s ∷ []
group_recovery Up s = CrashAt s 0 ∷ GroupAt s ∷ []
group_recovery Deported s = GroupAt s ∷ []
group_recovery Down s = GroupAt s ∷ []

-- the events of a line that is done: only those that make, give up, crash or bring up the group have any
abbrev pub group_events : Node → (site : ℕ) → ScriptLine → List Event
group_events n s (GroupInit site) = GroupAt s ∷ []
group_events n s (GroupDeport site) = DeportAt s ∷ []
group_events n s (GroupImport site) = GroupAt s ∷ []
group_events n s (Recover site) = group_recovery n.state s
group_events n s (Crash site pick) = CrashAt s 0 ∷ []
group_events n s other = []

-- those of a recovery that is refused: a site that is up crashed all the same
abbrev pub crash_first : SiteState → (site : ℕ) → List Event
crash_first Bare s = []
crash_first Up s = CrashAt s 0 ∷ []
crash_first Deported s = []
crash_first Down s = []

abbrev pub refused_events : Node → (site : ℕ) → ScriptLine → List Event
refused_events n s (Recover site) = crash_first n.state s
refused_events n s other = []

-- those of a line in which a fuse ran out: a deported site came up to be down
abbrev pub cut_events : (site : ℕ) → ScriptLine → List Event
cut_events s (GroupImport site) = GroupAt s ∷ CrashAt s 0 ∷ []
cut_events s other = CrashAt s 0 ∷ []

-- those of a recovery that came up and could not read then what is kept of a write
abbrev pub unread_events : Node → (site : ℕ) → List Event
unread_events n s = group_recovery n.state s ++ CrashAt s 0 ∷ []

-- ---- notes

-- the world v in which site s has this note of its group
abbrev pub noting : World → ℕ → GroupNode → World
noting v s note = with_node v s (record (v.nodes s) { group = Some note })

-- the world v in which the disks of site s have no fuse
abbrev pub fuse_lost : World → ℕ → World
fuse_lost v s = with_node v s (record (v.nodes s) { fuse = NoFuse })

-- The world v with what a line notes of the disks of its site beside their group: behind a line that works on them, a fuse may have let calls pass.
abbrev pub group_noted : (site : ℕ) → ScriptLine → World → World
group_noted s (Disk site disk state) v = made_fail v s disk (is_failing state)
group_noted s (Fuse site calls pick) v = fused v s calls
group_noted s (Volume site volume blocks mirrors layout log map policy) v = worked_on v s
group_noted s (PlexDetach site volume plex) v = worked_on v s
group_noted s (PlexAttach site volume plex) v = worked_on v s
group_noted s (WriteLine site volume start count fill) v = worked_on v s
group_noted s (Put site volume start bytes) v = worked_on v s
group_noted s (GroupDeport site) v = worked_on v s
group_noted s (GroupImport site) v = worked_on v s
group_noted s (Read site volume start count) v = worked_on v s
group_noted s (Show site volume start count) v = worked_on v s
group_noted s other v = v

-- no line that makes a disk fail, or ends that
abbrev pub MakesNoFailure : ScriptLine → Type 0
MakesNoFailure (Disk site disk state) = ⊥
MakesNoFailure other = Unit {0}
