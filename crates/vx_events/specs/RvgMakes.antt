-- How a line ends that makes a replicated volume group of volumes of a group of disks.
use Rattle.std.specs.Prelude.{◌≡◌, ℕ, false, List, [], ◌∷◌, Contains}
use Rattle.vx_model.specs.declared.limits.TheConstants.{MOST_NUMBER}
use Rattle.vx_model.specs.declared.no.Counted.TheVariants.{Number}
use Rattle.vx_model.specs.declared.no.No.TheVariants.{Device, Down as IsOff, Limit}
use Rattle.vx_model.specs.declared.units.Units.{Units}
use Rattle.vx_history.specs.Doubts.{Doubted}
use Rattle.vx_history.specs.Groups.{GroupNode}
use Rattle.vx_history.specs.Stops.{EventsEnd, IsFused, IsLikeDoubted}
use Rattle.vx_history.specs.Steps.{worked_on}
use Rattle.vx_history.specs.declared.event.Event.{Event}
use Rattle.vx_history.specs.declared.event.Event.TheVariants.{Crash as CrashAt}
use Rattle.vx_script.specs.declared.line.ScriptLine.{ScriptLine}
use Rattle.vx_script.specs.declared.line.ScriptLine.TheVariants.{Rvg}
use Rattle.vx_events.specs.Doubts.{IsAs, run_as}
use Rattle.vx_events.specs.Fails.{Fails}
use Rattle.vx_events.specs.GroupEnds.{AreOf}
use Rattle.vx_events.specs.GroupLines.{noting}
use Rattle.vx_events.specs.GroupNotes.{note_at}
use Rattle.vx_events.specs.RvgNotes.{NotesLacking, NotesNoRvg, NotesRvg, units_named, volume_events}
use Rattle.vx_events.specs.declared.said.Said.{Said}
use Rattle.vx_events.specs.declared.said.Said.TheVariants.{Done, Refused}

-- the doubts of d, over its world in which site s has this note of its group
abbrev pub noting_in : Doubted → ℕ → GroupNode → Doubted
noting_in d s note = record d { world = noting d.world s note }

-- what a line leaves of the worlds to which its events came: with this note, and with a fuse that may have let calls pass
abbrev pub IsLeftRvg : (s : ℕ) → GroupNode → (last new : Doubted) → Type 0
IsLeftRvg s next last new = IsAs last (worked_on (noting last.world s next) s) new

-- the units that the line names, by what site s notes of its group
abbrev pub units_at : Doubted → (s : ℕ) → (srl maps : List ℕ) → (volumes : List (List ℕ)) → Units
units_at d s srl maps volumes = units_named (note_at (d.world.nodes s)) srl maps volumes

-- The line at site s over a group that no test refuses.
pub data MakesRvg (told : Type 0) (d : Doubted) (line : ScriptLine) (s : ℕ) (fails : Fails) (said : Said) (new : Doubted) : Type 0 where
  -- it is done: the event looks at the note in which each block of a data volume has one value
  RvgDone : (site srl maps : List ℕ) (volumes : List (List ℕ)) (middle next : GroupNode) → line ≡ Rvg site srl maps volumes → AreOf s fails
      → NotesRvg told s fails (units_at d s srl maps volumes) (note_at (d.world.nodes s)) middle next → said ≡ Done
      → IsLeftRvg s next (run_as false (noting_in d s middle) (volume_events (note_at (d.world.nodes s)) s (units_at d s srl maps volumes))) new
      → MakesRvg told d line s fails said new
  -- no serial is left
  RvgLacks : (site srl maps : List ℕ) (volumes : List (List ℕ)) (next : GroupNode) → line ≡ Rvg site srl maps volumes → AreOf s fails
      → NotesLacking told s fails (units_at d s srl maps volumes) (note_at (d.world.nodes s)) next
      → said ≡ Refused (Limit Number MOST_NUMBER) → IsLeftRvg s next d new → MakesRvg told d line s fails said new
  -- calls on disks failed, and by the last of them the line
  RvgFails : (site srl maps : List ℕ) (volumes : List (List ℕ)) (disk : ℕ) (next : GroupNode) → line ≡ Rvg site srl maps volumes → AreOf s fails
      → Contains fails (s, disk) → NotesNoRvg told ⊥ s fails (units_at d s srl maps volumes) (note_at (d.world.nodes s)) next
      → said ≡ Refused (Device disk) → IsLeftRvg s next d new → MakesRvg told d line s fails said new
  -- the fuse of the disks ran out
  RvgCut : (site srl maps : List ℕ) (volumes : List (List ℕ)) (next : GroupNode) → line ≡ Rvg site srl maps volumes → AreOf s fails
      → IsFused (d.world.nodes s).fuse
      → NotesNoRvg told (IsFused (d.world.nodes s).fuse) s fails (units_at d s srl maps volumes) (note_at (d.world.nodes s)) next
      → said ≡ Refused IsOff → IsLeftRvg s next (run_as false d (CrashAt s 0 ∷ [])) new → MakesRvg told d line s fails said new

-- the line ended as these events do, from a world on that differs in notes alone, in worlds that differ in notes alone; and so the failed calls of which events tell
pub record RvgStops (d new : Doubted) : Type 0 where
  pub before : Doubted
  pub like : IsLikeDoubted d before
  pub events : List Event
  pub ending : Fails
  pub stops : EventsEnd before events ending new
