-- What a line leads a yard to at sites with replicated volume groups over groups of disks, or where it may find one.
use Rattle.std.specs.Prelude.{Result, Ok, Err}
use Rattle.vx_model.specs.declared.errors.OutOfMemory.{OutOfMemory}
use Rattle.vx_disk.specs.declared.shelf.Shelf.{Ghosts}
use Rattle.vx_history.specs.Doubts.{Doubted}
use Rattle.vx_script.specs.declared.line.ScriptLine.{ScriptLine}
use Rattle.vx_events.specs.Fails.{Fails}
use Rattle.vx_events.specs.RvgOver.{OverRvg}
use Rattle.vx_events.specs.RvgSteps.{WorksBeside, WorksFull, rvg_place}
use Rattle.vx_events.specs.declared.said.Said.{Said}
use Rattle.vx_yard.specs.Carries.{Carries}
use Rattle.vx_yard.specs.Standing.{StandsFor, StopsAbove}
use Rattle.vx_yard.specs.Stands.{RoseAll}
use Rattle.vx_yard.specs.Yards.{IsTold, count_of}
use Rattle.vx_yard.specs.declared.yard.Yard.{Yard}

module _ {R : Type 0} {g : Ghosts R} where
  -- The line works at a site with one.
  pub record LeadsAbove (d : Doubted) (line : ScriptLine) (said : Said) (old new : Yard R g) : Type 0 where
    pub next : Doubted
    pub fails : Fails
    pub works : OverRvg (IsTold new) d line (rvg_place d.world line) fails said next
    pub stands : StandsFor next new
    pub carries : Carries d old → Carries next new
    pub rose : RoseAll fails (count_of old) (count_of new)

  -- It works at a site without one, and where it brings a group up it may find one.
  pub record LeadsBeside (d : Doubted) (line : ScriptLine) (said : Said) (old new : Yard R g) : Type 0 where
    pub next : Doubted
    pub fails : Fails
    pub works : WorksBeside (IsTold new) d line fails said next
    pub stands : StandsFor next new
    pub carries : Carries d old → Carries next new
    pub rose : RoseAll fails (count_of old) (count_of new)

  abbrev pub LeadsAboveIs : Doubted → ScriptLine → Yard R g → Yard R g → Result Said OutOfMemory → Type 0
  LeadsAboveIs d line old new (Ok said) = LeadsAbove d line said old new
  LeadsAboveIs d line old new (Err e) = StopsAbove d line old new

  abbrev pub LeadsBesideIs : Doubted → ScriptLine → Yard R g → Yard R g → Result Said OutOfMemory → Type 0
  LeadsBesideIs d line old new (Ok said) = LeadsBeside d line said old new
  LeadsBesideIs d line old new (Err e) = StopsAbove d line old new

  -- ---- any line that no test refuses

  -- The line was done and answered so, and the yard stands for what it made of the world. It carries that, if it did so before.
  pub record WorksFor (d : Doubted) (line : ScriptLine) (said : Said) (old new : Yard R g) : Type 0 where
    pub next : Doubted
    pub fails : Fails
    pub works : WorksFull (IsTold new) d line fails said next
    pub stands : StandsFor next new
    pub carries : Carries d old → Carries next new
    pub rose : RoseAll fails (count_of old) (count_of new)

  -- the line was done, or memory ran out within it
  abbrev pub WorksIs : Doubted → ScriptLine → Yard R g → Yard R g → Result Said OutOfMemory → Type 0
  WorksIs d line old new (Ok said) = WorksFor d line said old new
  WorksIs d line old new (Err e) = StopsAbove d line old new
