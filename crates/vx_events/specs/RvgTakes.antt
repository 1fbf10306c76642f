-- How an import ends where a group of disks has a replicated volume group: as a recovery, but that its disks keep their fuse; and where it is refused the site is deported
-- still, unless the fuse ran out.
use Rattle.std.specs.Prelude.{◌≡◌, ◌⊎◌, ℕ, Bool, true, false, List, [], ◌∷◌, ◌++◌, None, Contains}
use Rattle.vx_model.specs.declared.limits.TheConstants.{MOST_NUMBER}
use Rattle.vx_model.specs.declared.no.Counted.TheVariants.{Number}
use Rattle.vx_model.specs.declared.no.No.{No}
use Rattle.vx_model.specs.declared.no.No.TheVariants.{Device, Down as IsOff, Limit}
use Rattle.vx_history.specs.Doubts.{Doubted}
use Rattle.vx_history.specs.Groups.{GroupNode}
use Rattle.vx_history.specs.Stops.{IsFused}
use Rattle.vx_history.specs.declared.event.Event.{Event}
use Rattle.vx_history.specs.declared.event.Event.TheVariants.{Fall as FallAt, Recover as RecoverAt}
use Rattle.vx_script.specs.declared.line.ScriptLine.{ScriptLine}
use Rattle.vx_script.specs.declared.line.ScriptLine.TheVariants.{GroupImport}
use Rattle.vx_events.specs.Doubts.{run_as}
use Rattle.vx_events.specs.Fails.{Fails}
use Rattle.vx_events.specs.GroupEnds.{AreOf, KnowsNothing, NotFound, NotFoundLeaves}
use Rattle.vx_events.specs.GroupNotes.{NotesBack, NotesRefused, NotesUnfound, note_at}
use Rattle.vx_events.specs.RvgBack.{IsLeftBack, IsLeftBut, LacksSession, SessionLeft}
use Rattle.vx_events.specs.RvgFits.{NoteKeepsRvg}
use Rattle.vx_events.specs.RvgViews.{is_over_rvg}
use Rattle.vx_events.specs.RvgWorks.{NotesWork, WorksCut}
use Rattle.vx_events.specs.declared.said.Said.{Said}
use Rattle.vx_events.specs.declared.said.Said.TheVariants.{Done, Refused}

-- what is noted where the group did not come up as the fuse ran out: of disks of which nothing is known it may be that imports disagree besides
abbrev pub NotesOff : Type 0 → (note next : GroupNode) → Type 0
NotesOff told note next = NotesRefused note next ⊎ (KnowsNothing told note × NotesUnfound note next)

-- An import at site s that no test refuses, where what the disks hold is known and imports agree; and one in which the fuse ran out.
pub data RvgTakes (told : Type 0) (d : Doubted) (line : ScriptLine) (s : ℕ) (fails : Fails) (said : Said) (new : Doubted) : Type 0 where
  -- it is done: the group came up, and its log in its next session
  RvgTaken : (site : List ℕ) (middle next : GroupNode) → is_over_rvg (d.world.nodes s) ≡ true → line ≡ GroupImport site → AreOf s fails
      → NotesBack told s (d.world.nodes s) fails (note_at (d.world.nodes s)) middle → NoteKeepsRvg (note_at (d.world.nodes s)) middle → NotesWork ⊥ s fails middle next → said ≡ Done
      → IsLeftBack s line false next d (run_as false d (RecoverAt s None ∷ [])) new → RvgTakes told d line s fails said new
  -- the log could not be read, or be brought to its next session, as a disk failed: the disks crashed
  TakeFails : (site : List ℕ) (disk : ℕ) (middle next : GroupNode) (left : List Event) → is_over_rvg (d.world.nodes s) ≡ true → line ≡ GroupImport site → AreOf s fails → Contains fails (s, disk)
      → NotesBack told s (d.world.nodes s) fails (note_at (d.world.nodes s)) middle → NoteKeepsRvg (note_at (d.world.nodes s)) middle → WorksCut ⊥ s fails (note_at (d.world.nodes s)).cut middle next
      → SessionLeft s disk left → said ≡ Refused (Device disk) → IsLeftBut true s line false next d (run_as false d left) new → RvgTakes told d line s fails said new
  -- no number is left for its next session
  TakeLacks : (site : List ℕ) (middle next : GroupNode) → is_over_rvg (d.world.nodes s) ≡ true → line ≡ GroupImport site → AreOf s fails
      → NotesBack told s (d.world.nodes s) fails (note_at (d.world.nodes s)) middle → NoteKeepsRvg (note_at (d.world.nodes s)) middle → WorksCut ⊥ s fails (note_at (d.world.nodes s)).cut middle next
      → LacksSession told d.world s → said ≡ Refused (Limit Number MOST_NUMBER) → IsLeftBut true s line false next d d new → RvgTakes told d line s fails said new
  -- the fuse ran out behind the group, which came up: the site is down
  TakeCut : (site : List ℕ) (middle next : GroupNode) (left : List Event) → is_over_rvg (d.world.nodes s) ≡ true → line ≡ GroupImport site → AreOf s fails → IsFused (d.world.nodes s).fuse
      → NotesBack told s (d.world.nodes s) fails (note_at (d.world.nodes s)) middle → NoteKeepsRvg (note_at (d.world.nodes s)) middle
      → WorksCut (IsFused (d.world.nodes s).fuse) s fails (note_at (d.world.nodes s)).cut middle next → SessionLeft s 0 left → said ≡ Refused IsOff
      → IsLeftBack s line false next d (run_as false d (left ++ FallAt s ∷ [])) new → RvgTakes told d line s fails said new
  -- or before it did
  TakeOff : (site : List ℕ) (next : GroupNode) → is_over_rvg (d.world.nodes s) ≡ true → line ≡ GroupImport site → AreOf s fails → IsFused (d.world.nodes s).fuse
      → NotesOff told (note_at (d.world.nodes s)) next → said ≡ Refused IsOff → IsLeftBack s line false next d (run_as false d (FallAt s ∷ [])) new → RvgTakes told d line s fails said new
  -- no group was found
  TakeUnfound : (site : List ℕ) (lost : Bool) (why : No) (next : GroupNode) → is_over_rvg (d.world.nodes s) ≡ true → line ≡ GroupImport site → AreOf s fails
      → NotFound s (note_at (d.world.nodes s)) fails why → NotFoundLeaves why (note_at (d.world.nodes s)) next → said ≡ Refused why → IsLeftBut lost s line false next d d new → RvgTakes told d line s fails said new
  -- the group did not come up, as a disk failed
  TakeHeld : (site : List ℕ) (lost : Bool) (disk : ℕ) (next : GroupNode) → is_over_rvg (d.world.nodes s) ≡ true → line ≡ GroupImport site → AreOf s fails → Contains fails (s, disk)
      → NotesRefused (note_at (d.world.nodes s)) next → said ≡ Refused (Device disk) → IsLeftBut lost s line false next d d new → RvgTakes told d line s fails said new
