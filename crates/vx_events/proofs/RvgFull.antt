-- In a world in which no site is over a group of disks with a replicated volume group, a line that makes none, and finds none, does what it does there.
use Rattle.std.proofs.Common.{ℕ, Bool, false, sym, subst}
use Rattle.std.specs.Prelude.{Option, Some, None}
use Rattle.vx_model.specs.declared.no.No.{No}
use Rattle.vx_history.specs.Doubts.{Doubted}
use Rattle.vx_script.specs.declared.line.ScriptLine.{ScriptLine}
use Rattle.vx_script.specs.declared.line.ScriptLine.TheVariants.{Rvg}
use Rattle.vx_events.specs.Fails.{Fails}
use Rattle.vx_events.specs.GroupEnds.{BringsUp}
use Rattle.vx_events.specs.RvgBack.{FindsLost, FindsNoRvg, FindsPlain, FindsRvg, RvgFinds}
use Rattle.vx_events.proofs.Opens.{for_none, open_none}
use Rattle.vx_events.proofs.StrayFinds.{finds_plain}
use Rattle.vx_events.specs.RvgSteps.{AsBefore, FoundOne, FoundPlain, FullBy, HasNoRvgs, MakesNoRvg, StepFull, WorksAbove, WorksBeside, WorksFull, is_for_rvg}
use Rattle.vx_events.specs.StepsOver.{OverBy, StepOver, WorksOver, group_place, is_for_group, refused_over}
use Rattle.vx_events.specs.Strays.{NotesNoRvgs}
use Rattle.vx_events.specs.declared.said.Said.{Said}

-- what finds a replicated volume group brings a group up
pub brings_found : (told : Type 0) (d : Doubted) (line : ScriptLine) (s : ℕ) (fails : Fails) (said : Said) (new : Doubted) → RvgFinds told d line s fails said new → BringsUp line
brings_found told d line s fails said new (FindsRvg kept taken next mid n k row c units are brings unknown dark is same comes config fits lies says left) = brings
brings_found told d line s fails said new (FindsLost site kept taken disk next mid n k row c units has cut is are failed unknown dark rests same comes config fits lies says left) =
    subst BringsUp (sym is) tt
brings_found told d line s fails said new (FindsPlain kept taken next mid has are brings unknown dark is none says left) = brings
brings_found told d line s fails said new (FindsNoRvg kept taken lost next why has are brings unknown free notes says left) = brings

module _ (told : Type 0) (files : Bool) (d : Doubted) (none : HasNoRvgs d.world) (fails : Fails) (said : Said) (new : Doubted) where
  abbrev Full : ScriptLine → Type 0
  Full line = WorksFull told d line fails said new

  -- what a line works on there
  beside_full : (line : ScriptLine) → MakesNoRvg line → WorksBeside told d line fails said new → Full line
  beside_full (Rvg site srl maps volumes) makes works = absurd makes
  beside_full other makes works =
      subst (λ (b : Bool). WorksAbove b (is_for_rvg d.world other) told d other fails said new) (sym (open_none d.world none other))
      (subst (λ (b : Bool). WorksAbove false b told d other fails said new) (sym (for_none d.world none other)) works)

  full_beside : (line : ScriptLine) → MakesNoRvg line → Full line → WorksBeside told d line fails said new
  full_beside (Rvg site srl maps volumes) makes works = absurd makes
  full_beside other makes works =
      subst (λ (b : Bool). WorksAbove false b told d other fails said new) (for_none d.world none other)
      (subst (λ (b : Bool). WorksAbove b (is_for_rvg d.world other) told d other fails said new) (open_none d.world none other) works)

  over_by : (line : ScriptLine) → MakesNoRvg line → FoundPlain line (group_place d.world line) new → (o : Option No) → OverBy o (is_for_group d.world line) told d line fails said new
      → FullBy o told d line fails said new
  over_by line makes found (Some why) step = step
  over_by line makes found None step = beside_full line makes (AsBefore step found)

  plain_by : (line : ScriptLine) → MakesNoRvg line → NotesNoRvgs new.world → (o : Option No) → FullBy o told d line fails said new
      → OverBy o (is_for_group d.world line) told d line fails said new
  plain_by line makes plain (Some why) step = step
  plain_by line makes plain None step = before (full_beside line makes step)
    where
      before : WorksBeside told d line fails said new → WorksOver (is_for_group d.world line) told d line fails said new
      before (AsBefore works found) = works
      before (FoundOne finds) =
          let s : ℕ = group_place d.world line in
          absurd (finds_plain told d line s fails said new finds (none s) (plain s))

  pub full_over : (line : ScriptLine) → MakesNoRvg line → FoundPlain line (group_place d.world line) new → StepOver told files d line fails said new
      → StepFull told files d line fails said new
  full_over line makes found step = over_by line makes found (refused_over d.world files line) step

  pub over_full : (line : ScriptLine) → MakesNoRvg line → NotesNoRvgs new.world → StepFull told files d line fails said new
      → StepOver told files d line fails said new
  over_full line makes plain step = plain_by line makes plain (refused_over d.world files line) step
