-- What a line does to a world in which some sites are over groups of disks, with replicated volume groups or without: its first refusal, or its events and
-- the way in which they end.
use Rattle.std.specs.Prelude.{◌≡◌, ◌<◌, ℕ, Bool, true, false, List, Option, Some, None}
use Rattle.vx_model.specs.declared.no.No.{No}
use Rattle.vx_history.specs.Doubts.{Doubted}
use Rattle.vx_history.specs.World.{World}
use Rattle.vx_script.specs.declared.line.ScriptLine.{ScriptLine}
use Rattle.vx_script.specs.declared.line.ScriptLine.TheVariants.{GroupDeport, GroupImport, Volume, PlexDetach, PlexAttach, Rvg, Disk, Crash, Fuse, Recover, Write, Put, Read, Show, Apply, Status}
use Rattle.vx_events.specs.Ends.{place_of}
use Rattle.vx_events.specs.Facts.{site_number}
use Rattle.vx_events.specs.Fails.{Fails}
use Rattle.vx_events.specs.GroupEnds.{BringsUp}
use Rattle.vx_events.specs.GroupLines.{is_over_group}
use Rattle.vx_events.specs.GroupNotes.{note_at}
use Rattle.vx_events.specs.Lines.{IsRefusedLine}
use Rattle.vx_events.specs.OpenLines.{is_open}
use Rattle.vx_events.specs.RvgBack.{RvgFinds}
use Rattle.vx_events.specs.RvgFits.{rvg_noted}
use Rattle.vx_events.specs.RvgMakes.{MakesRvg}
use Rattle.vx_events.specs.RvgOver.{OverRvg}
use Rattle.vx_events.specs.RvgViews.{is_over_rvg}
use Rattle.vx_events.specs.StepsOver.{WorksOver, group_place, is_for_group, refused_over}
use Rattle.vx_events.specs.declared.said.Said.{Said}

-- ---- lines

abbrev pub over_rvg_at : World → List ℕ → Bool
over_rvg_at w site = is_over_rvg (w.nodes (site_number w site))

-- whether the line works at a site over a group of disks with a replicated volume group, and on no link
abbrev pub is_for_rvg : World → ScriptLine → Bool
is_for_rvg w (GroupDeport site) = over_rvg_at w site
is_for_rvg w (GroupImport site) = over_rvg_at w site
is_for_rvg w (Volume site volume blocks mirrors layout log map policy) = over_rvg_at w site
is_for_rvg w (PlexDetach site volume plex) = over_rvg_at w site
is_for_rvg w (PlexAttach site volume plex) = over_rvg_at w site
is_for_rvg w (Disk site disk state) = over_rvg_at w site
is_for_rvg w (Crash site pick) = over_rvg_at w site
is_for_rvg w (Fuse site calls pick) = over_rvg_at w site
is_for_rvg w (Recover site) = over_rvg_at w site
is_for_rvg w (Write site volume start count fill) = over_rvg_at w site
is_for_rvg w (Put site volume start bytes) = over_rvg_at w site
is_for_rvg w (Read site volume start count) = over_rvg_at w site
is_for_rvg w (Show site volume start count) = over_rvg_at w site
is_for_rvg w (Apply site to) = over_rvg_at w site
is_for_rvg w (Status site) = over_rvg_at w site
is_for_rvg w other = false

-- the site of such a line
abbrev pub rvg_place : World → ScriptLine → ℕ
rvg_place w (GroupDeport site) = site_number w site
rvg_place w (GroupImport site) = site_number w site
rvg_place w (Volume site volume blocks mirrors layout log map policy) = site_number w site
rvg_place w (PlexDetach site volume plex) = site_number w site
rvg_place w (PlexAttach site volume plex) = site_number w site
rvg_place w other = place_of w other

-- a line that brings a group up found one without a replicated volume group, where its site is over one then
abbrev pub FoundPlain : ScriptLine → (s : ℕ) → Doubted → Type 0
FoundPlain line s new = BringsUp line → s < new.world.sites → is_over_group (new.world.nodes s) ≡ true → rvg_noted (note_at (new.world.nodes s)) ≡ None

-- A line at no site that has a replicated volume group over a group of disks. One that brings a group up, of a site over one or of a bare one, may find one.
pub data WorksBeside (told : Type 0) (d : Doubted) (line : ScriptLine) (fails : Fails) (said : Said) (new : Doubted) : Type 0 where
  AsBefore : WorksOver (is_for_group d.world line) told d line fails said new → FoundPlain line (group_place d.world line) new → WorksBeside told d line fails said new
  FoundOne : RvgFinds told d line (group_place d.world line) fails said new → WorksBeside told d line fails said new

abbrev pub WorksAbove : (halts above : Bool) → Type 0 → Doubted → ScriptLine → Fails → Said → Doubted → Type 0
WorksAbove true above told d line fails said new = ⊥
WorksAbove false true told d line fails said new = OverRvg told d line (rvg_place d.world line) fails said new
WorksAbove false false told d line fails said new = WorksBeside told d line fails said new

-- A line that no test refuses: one that makes a replicated volume group, one at a site that has one over a group of disks, or another. None goes past an open one.
abbrev pub WorksFull : Type 0 → Doubted → ScriptLine → Fails → Said → Doubted → Type 0
WorksFull told d (Rvg site srl maps volumes) fails said new = MakesRvg told d (Rvg site srl maps volumes) (site_number d.world site) fails said new
WorksFull told d other fails said new = WorksAbove (is_open d.world other) (is_for_rvg d.world other) told d other fails said new

abbrev pub FullBy : Option No → Type 0 → Doubted → ScriptLine → Fails → Said → Doubted → Type 0
FullBy (Some why) told d line fails said new = IsRefusedLine why d fails said new
FullBy None told d line fails said new = WorksFull told d line fails said new

-- The first refusal that holds in the one order is the reply, and nothing changes. Where there is none, the line works.
abbrev pub StepFull : Type 0 → Bool → Doubted → ScriptLine → Fails → Said → Doubted → Type 0
StepFull told files d line fails said new = FullBy (refused_over d.world files line) told d line fails said new

-- ---- worlds in which nothing changes

-- no site is over a group of disks with a replicated volume group
abbrev pub HasNoRvgs : World → Type 0
HasNoRvgs w = (i : ℕ) → is_over_rvg (w.nodes i) ≡ false

-- a line that makes none
abbrev pub MakesNoRvg : ScriptLine → Type 0
MakesNoRvg (Rvg site srl maps volumes) = ⊥
MakesNoRvg other = Unit {0}
