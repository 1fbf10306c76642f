-- A run in which no line makes a group of disks ends at no open line, where contents are told.
use Rattle.std.proofs.Common.{◌≡◌, ◌∙◌, ℕ, Bool, true, false, List, [], ◌∷◌, ◌++◌, Option, Some, None, Result, Ok, Err, refl, subst, sym}
use Rattle.vx_history.specs.Doubts.{Doubted}
use Rattle.vx_history.specs.World.{empty_world}
use Rattle.vx_script.specs.declared.line.ScriptLine.{ScriptLine}
use Rattle.vx_events.specs.Brights.{NotesNone}
use Rattle.vx_events.specs.Doubts.{sure}
use Rattle.vx_events.specs.Fails.{Fails}
use Rattle.vx_settling.proofs.NoGroups.{no_open, step_none, step_stays}
use Rattle.vx_yard.specs.Lines.{script_line}
use Rattle.vx_yard.specs.Steps.{SaidStep}
use Rattle.vx_cli.specs.Complete.{MakesNoGroups, NoneMakesGroups, StopsOpen}
use Rattle.vx_cli.specs.Runs.{RunsLines}
use Rattle.vx_cli.specs.declared.status.Status.{Status}

-- no site notes a group, and the world has not strayed
record Stands (d : Doubted) : Type 0 where
  notes : NotesNone d
  calm : d.strayed ≡ false

said_stands : (files : Bool) (d : Doubted) (r : Result (Option ScriptLine) ℕ) (fails : Fails) (text : List ℕ) (new : Doubted) → Stands d → MakesNoGroups r
    → SaidStep (Unit {0}) files d r fails text new → Stands new
said_stands files d (Ok None) fails text new s makes step = subst Stands (sym step.2) s
said_stands files d (Ok (Some words)) fails text new s makes step = record {
  notes = step_none d s.notes s.calm fails step.said new files words makes.0 makes.1 step.step;
  calm = step_stays d s.notes s.calm fails step.said new files words step.step;
}
said_stands files d (Err column) fails text new s makes step = absurd step

runs_stand : (files : Bool) (d : Doubted) (lines : List (List ℕ)) (failures : List Fails) (texts : List (List ℕ)) (new : Doubted) → Stands d → NoneMakesGroups lines
    → RunsLines (Unit {0}) files d lines failures texts new → Stands new
runs_stand files d [] [] [] new s makes run = subst Stands (sym run) s
runs_stand files d [] [] (text ∷ texts) new s makes run = absurd run
runs_stand files d [] (fails ∷ failures) texts new s makes run = absurd run
runs_stand files d (line ∷ lines) [] texts new s makes run = absurd run
runs_stand files d (line ∷ lines) (fails ∷ failures) [] new s makes run = absurd run
runs_stand files d (line ∷ lines) (fails ∷ failures) (text ∷ texts) new s makes run =
    runs_stand files run.0 lines failures texts new (said_stands files d (script_line line) fails text run.0 s makes.0 run.1) makes.1 run.2

-- the first of these lines
first_none : (before others : List (List ℕ)) → NoneMakesGroups (before ++ others) → NoneMakesGroups before
first_none [] others makes = tt
first_none (line ∷ before) others makes = (makes.0, first_none before others makes.1)

begins : Stands (sure empty_world)
begins = record { notes = record { sites = λ i. refl; doubts = λ i a is. absurd (cc) }; calm = refl }

-- such lines leave a world that has not strayed
pub runs_calm : (files : Bool) (lines : List (List ℕ)) (failures : List Fails) (texts : List (List ℕ)) (new : Doubted) → NoneMakesGroups lines
    → RunsLines (Unit {0}) files (sure empty_world) lines failures texts new → new.strayed ≡ false
runs_calm files lines failures texts new makes run = let s : Stands new = runs_stand files (sure empty_world) lines failures texts new begins makes run in s.calm

pub none_open : (files : Bool) (status : Status) (lines : List (List ℕ)) → NoneMakesGroups lines → StopsOpen (Unit {0}) files status lines → ⊥
none_open files status lines makes stops =
    let first = first_none stops.before (stops.next ∷ stops.others) (subst NoneMakesGroups stops.split makes) in
    let s : Stands stops.behind = runs_stand files (sure empty_world) stops.before stops.failures stops.texts stops.behind begins first stops.run in
    let clash : true ≡ false = sym stops.ends.is ∙ no_open stops.behind s.notes stops.words in
    cc
