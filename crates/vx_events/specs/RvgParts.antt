-- What want of memory may leave of a line that makes a replicated volume group, and of a recovery or an import where a group of disks has one.
use Rattle.std.specs.Prelude.{◌≡◌, ◌⊎◌, ℕ, Bool, true, List}
use Rattle.vx_history.specs.Doubts.{Doubted}
use Rattle.vx_history.specs.Groups.{GroupNode}
use Rattle.vx_history.specs.World.{World}
use Rattle.vx_script.specs.declared.line.ScriptLine.{ScriptLine}
use Rattle.vx_script.specs.declared.line.ScriptLine.TheVariants.{Rvg}
use Rattle.vx_events.specs.Doubts.{run_as}
use Rattle.vx_events.specs.Facts.{site_number}
use Rattle.vx_events.specs.Fails.{Fails}
use Rattle.vx_events.specs.GroupEnds.{AreOf, BringsUp}
use Rattle.vx_events.specs.GroupNotes.{NotesBack, NotesShort, note_at}
use Rattle.vx_events.specs.Parts.{StopsShort}
use Rattle.vx_events.specs.RvgBack.{IsLeftBut, fall_first}
use Rattle.vx_events.specs.RvgFits.{NoteKeepsRvg}
use Rattle.vx_events.specs.RvgMakes.{IsLeftRvg, units_at}
use Rattle.vx_events.specs.RvgNotes.{NotesNoRvg}
use Rattle.vx_events.specs.RvgViews.{is_over_rvg}
use Rattle.vx_events.specs.StepsOver.{group_place}

pub data RvgShort (told : Type 0) (d : Doubted) (line : ScriptLine) (s : ℕ) (new : Doubted) : Type 0 where
  -- the group did not come up: a site that is up crashed all the same, and the fuse of the disks may be lost
  ShortGroup : (kept : ℕ) (taken lost : Bool) (next : GroupNode) → is_over_rvg (d.world.nodes s) ≡ true → BringsUp line
      → NotesShort (note_at (d.world.nodes s)) next
      → IsLeftBut lost s line taken next d (run_as taken d (fall_first (d.world.nodes s).state s kept)) new → RvgShort told d line s new
  -- the group came up, and nothing was begun of its log: the disks crashed
  ShortLog : (kept : ℕ) (taken : Bool) (fails : Fails) (middle next : GroupNode) → is_over_rvg (d.world.nodes s) ≡ true → BringsUp line → AreOf s fails
      → NotesBack told s (d.world.nodes s) fails (note_at (d.world.nodes s)) middle → NoteKeepsRvg (note_at (d.world.nodes s)) middle
      → next ≡ record middle { cut = (note_at (d.world.nodes s)).cut } → IsLeftBut true s line taken next d (run_as taken d (fall_first (d.world.nodes s).state s kept)) new
      → RvgShort told d line s new
  -- none was made, but calls on disks were
  ShortMade : (site srl maps : List ℕ) (volumes : List (List ℕ)) (fails : Fails) (next : GroupNode) → line ≡ Rvg site srl maps volumes → AreOf s fails
      → NotesNoRvg told ⊥ s fails (units_at d s srl maps volumes) (note_at (d.world.nodes s)) next → IsLeftRvg s next d new → RvgShort told d line s new

-- the site of such a line
abbrev pub short_place : World → ScriptLine → ℕ
short_place w (Rvg site srl maps volumes) = site_number w site
short_place w other = group_place w other

-- what want of memory leaves of a line in worlds in which some sites are over groups of disks, with replicated volume groups or without
abbrev pub ShortFull : Type 0 → Doubted → ScriptLine → Doubted → Type 0
ShortFull told d line new = StopsShort told d line new ⊎ RvgShort told d line (short_place d.world line) new
