-- Which end a run comes to, where nothing cuts it off.
use Rattle.std.specs.Prelude.{◌≡◌, ◌⊎◌, ℕ, ◌+◌, ◌≤◌, ◌<◌, Bool, List, [], ◌∷◌, ◌++◌, length, map, Option, Some, Result, Ok, Err}
use Rattle.std.specs.List.{concat}
use Rattle.std.specs.Io.KnownBytes.{Appends}
use Rattle.vx_history.specs.Doubts.{Doubted}
use Rattle.vx_history.specs.World.{empty_world}
use Rattle.vx_events.specs.Doubts.{sure}
use Rattle.vx_yard.specs.Lines.{script_line}
use Rattle.vx_events.specs.Fails.{Fails}
use Rattle.vx_events.specs.OpenLines.{EndsRun}
use Rattle.vx_events.specs.RvgSteps.{MakesNoRvg}
use Rattle.vx_events.specs.StepsOver.{MakesNoGroup}
use Rattle.vx_script.specs.Lines.{split_lines}
use Rattle.vx_script.specs.declared.line.ScriptLine.{ScriptLine}
use Rattle.vx_cli.specs.Runs.{RunsLines}
use Rattle.vx_cli.specs.declared.status.Status.{Status}
use Rattle.vx_cli.specs.declared.status.Status.TheVariants.{Done, Usage, BadLine, ReadFault, WriteFault, OutOfMemory, TooLong}

-- a line of the grammar whose kind is built, or an empty one or a comment
abbrev pub IsGoodLine : List ℕ → Type 0
IsGoodLine line = (column : ℕ) → script_line line ≡ Err column → ⊥

abbrev pub AllLinesGood : List (List ℕ) → Type 0
AllLinesGood [] = Unit {0}
AllLinesGood (line ∷ lines) = IsGoodLine line × AllLinesGood lines

-- the run was not cut off by a fault of its ends or by want of memory
abbrev pub IsUncut : Status → Type 0
IsUncut Done = Unit {0}
IsUncut Usage = Unit {0}
IsUncut (BadLine line column) = Unit {0}
IsUncut TooLong = Unit {0}
IsUncut ReadFault = ⊥
IsUncut WriteFault = ⊥
IsUncut OutOfMemory = ⊥

-- each line is good, and they are at most 1,000,000
pub record IsGoodScript (input : List ℕ) : Type 0 where
  pub good : AllLinesGood (split_lines input)
  pub few : length (split_lines input) ≤ 1000000

-- the first line that is wrong, and from which column on
pub record FirstBad (input : List ℕ) (line column : ℕ) : Type 0 where
  pub before : List (List ℕ)
  pub bad : List ℕ
  pub others : List (List ℕ)
  pub split : split_lines input ≡ before ++ bad ∷ others
  pub good : AllLinesGood before
  pub wrong : script_line bad ≡ Err column
  pub number : line ≡ length before + 1
  pub few : length before < 1000000

-- 1,000,000 lines are good, and another follows
pub record IsTooLong (input : List ℕ) : Type 0 where
  pub before : List (List ℕ)
  pub next : List ℕ
  pub others : List (List ℕ)
  pub split : split_lines input ≡ before ++ next ∷ others
  pub good : AllLinesGood before
  pub number : length before ≡ 1000000

-- The run ended at a line that is open in the world behind those before it, which were done, and that no test refuses: it was answered as one whose kind is not
-- built.
pub record StopsOpen (told : Type 0) (files : Bool) (status : Status) (lines : List (List ℕ)) : Type 0 where
  pub before : List (List ℕ)
  pub next : List ℕ
  pub others : List (List ℕ)
  pub split : lines ≡ before ++ next ∷ others
  pub failures : List Fails
  pub texts : List (List ℕ)
  pub behind : Doubted
  pub run : RunsLines told files (sure empty_world) before failures texts behind
  pub words : ScriptLine
  pub says : script_line next ≡ Ok (Some words)
  pub ends : EndsRun files behind.world words
  pub is : status ≡ BadLine (length before + 1) 1

-- a line that was read makes no group of disks and no replicated volume group
abbrev pub MakesNoGroups : Result (Option ScriptLine) ℕ → Type 0
MakesNoGroups (Ok (Some words)) = MakesNoGroup words × MakesNoRvg words
MakesNoGroups other = Unit {0}

-- nor does any of these
abbrev pub NoneMakesGroups : List (List ℕ) → Type 0
NoneMakesGroups [] = Unit {0}
NoneMakesGroups (line ∷ lines) = MakesNoGroups (script_line line) × NoneMakesGroups lines

-- a count that did not rise, and that does not stand at its greatest value
pub record IsStillCount (before now : ℕ) : Type 0 where
  pub same : now ≡ before
  pub below : now < 0xffff_ffff_ffff_ffff

-- the counts of all disks
pub record AreStill (before now : ℕ → ℕ → ℕ) : Type 0 where
  pub each : (s d : ℕ) → IsStillCount (before s d) (now s d)

-- no call failed in any line
abbrev pub no_fails : List (List ℕ) → List Fails
no_fails lines = map (λ line. []) lines

-- All lines were done, no call failed in them, and each reply was written.
pub record CleanRun (told : Type 0) (files : Bool) (Leaves : Doubted → Type 0) (lines : List (List ℕ)) (written now : Option (List ℕ)) : Type 0 where
  pub texts : List (List ℕ)
  pub world : Doubted
  pub run : RunsLines told files (sure empty_world) lines (no_fails lines) texts world
  pub appends : Appends written now (concat texts)
  pub leaves : Leaves world

-- such a run was done, or memory ran out, or it ended at an open line
abbrev pub IsClean : Type 0 → Bool → (Doubted → Type 0) → Status → List (List ℕ) → Option (List ℕ) → Option (List ℕ) → Type 0
IsClean told files Leaves status lines written now = ((status ≡ Done) × CleanRun told files Leaves lines written now) ⊎ (status ≡ OutOfMemory) ⊎ StopsOpen told files status lines
