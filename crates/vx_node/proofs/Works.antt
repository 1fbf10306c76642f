-- What a line that no test refuses is answered.
use Rattle.std.proofs.Common.{◌≡◌, ◌∙◌, sym, subst}
use Rattle.std.specs.Prelude.{Option, None, Result, Ok, Err}
use Rattle.vx_history.specs.Doubts.{Doubted}
use Rattle.vx_model.specs.declared.errors.OutOfMemory.{OutOfMemory}
use Rattle.vx_model.specs.declared.no.No.{No}
use Rattle.vx_disk.specs.declared.shelf.Shelf.{Ghosts}
use Rattle.vx_script.specs.declared.line.ScriptLine.{ScriptLine}
use Rattle.vx_events.specs.RvgSteps.{FullBy}
use Rattle.vx_events.specs.StepsOver.{refused_over}
use Rattle.vx_events.specs.declared.said.Said.{Said}
use Rattle.vx_link_lines.proofs.AnswerFor.{tested}
use Rattle.vx_yard.specs.AboveLines.{WorksIs}
use Rattle.vx_yard.specs.Carries.{Carries}
use Rattle.vx_yard.specs.Standing.{AnswersIs, StandsFor}
use Rattle.vx_yard.specs.Working.{IsFree}
use Rattle.vx_yard.specs.Yards.{IsTold, in_files}
use Rattle.vx_yard.specs.declared.yard.Yard.{Yard}

module _ {R : Type 0} {g : Ghosts R} where
  -- one that no test refuses is answered what it worked
  pub works_answer : (d : Doubted) (line : ScriptLine) (old new : Yard R g) (r : Result Said OutOfMemory) → StandsFor d old → Carries d old → IsFree old line → WorksIs d line old new r → AnswersIs d line old new r
  works_answer d line old new (Ok said) stands carries free work =
      let none : refused_over d.world (in_files old) line ≡ None = tested d old line stands carries ∙ free in
      record {
        next = work.next;
        fails = work.fails;
        step = subst (λ (o : Option No). FullBy o (IsTold new) d line work.fails said work.next) (sym none) work.works;
        stands = work.stands;
        carries = work.carries;
        rose = work.rose;
      }
  works_answer d line old new (Err e) stands carries free stops = stops
