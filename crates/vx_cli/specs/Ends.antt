-- How a run ends, by its status.
use Rattle.std.specs.Prelude.{◌≡◌, ℕ, ◌+◌, ◌≤◌, ◌<◌, Bool, false, List, [], ◌∷◌, ◌++◌, length, Option, Some, None, Result, Ok, Err, true}
use Rattle.std.specs.List.{concat}
use Rattle.std.specs.Io.KnownBytes.{Appends}
use Rattle.vx_history.specs.Doubts.{Doubted}
use Rattle.vx_history.specs.World.{World, empty_world}
use Rattle.vx_events.specs.Doubts.{sure}
use Rattle.vx_yard.specs.Lines.{script_line}
use Rattle.vx_yard.specs.Stands.{RoseAll}
use Rattle.vx_events.specs.Fails.{Fails}
use Rattle.vx_events.specs.OpenLines.{EndsRun}
use Rattle.vx_events.specs.Parts.{may_stop}
use Rattle.vx_events.specs.RvgParts.{ShortFull, short_place}
use Rattle.vx_events.specs.RvgViews.{is_over_rvg}
use Rattle.vx_script.specs.Lines.{split_lines, whole_lines_of}
use Rattle.vx_script.specs.declared.line.ScriptLine.{ScriptLine}
use Rattle.vx_script.specs.declared.line.ScriptLine.TheVariants.{GroupImport, Recover, Rvg}
use Rattle.vx_cli.specs.Reading.{MayHave}
use Rattle.vx_cli.specs.Runs.{RunsLines, fails_of_lines}
use Rattle.vx_cli.specs.Texts.{bad_text, IsTextCut}
use Rattle.vx_cli.specs.declared.status.Status.{Status}
use Rattle.vx_cli.specs.declared.status.Status.TheVariants.{Done, Usage, BadLine, ReadFault, WriteFault, OutOfMemory, TooLong}

-- What a run did: the lines that it did and those that it did not, the failed calls in each and the text of each.
pub record RunPart : Type 0 where
  pub lines : List (List ℕ)
  pub others : List (List ℕ)
  pub failures : List Fails
  pub texts : List (List ℕ)

-- A line ends a run: it is wrong from this column on; or no test refuses it in this world and it is open, and then it is answered as one whose kind is not built.
pub data IsBadLine (files : Bool) (w : World) (line : List ℕ) (column : ℕ) : Type 0 where
  WrongLine : script_line line ≡ Err column → IsBadLine files w line column
  OpenLine : (words : ScriptLine) → script_line line ≡ Ok (Some words) → EndsRun files w words → column ≡ 1 → IsBadLine files w line column

-- the next of these lines does
abbrev pub IsBadNext : Bool → World → List (List ℕ) → ℕ → Type 0
IsBadNext files w [] column = ⊥
IsBadNext files w (line ∷ lines) column = IsBadLine files w line column

abbrev pub IsNonEmpty : List (List ℕ) → Type 0
IsNonEmpty [] = ⊥
IsNonEmpty (line ∷ lines) = Unit {0}

-- The sink failed at the reply of the last line that was done, or at the line that says where the script is wrong. All
-- before it was written, and of it a front part. n lines came before, and all that were done left this world.
pub data WriteEnds (files : Bool) (w : World) (n : ℕ) (part : RunPart) (out : List ℕ) : Type 0 where
  AtReply : (before : List (List ℕ)) (last sent : List ℕ) → part.texts ≡ before ++ last ∷ [] → IsTextCut last sent → out ≡ concat before ++ sent → WriteEnds files w n part out
  AtBad : (column : ℕ) (sent : List ℕ) → IsBadNext files w part.others column → n + length part.lines < 1000000 → IsTextCut (bad_text (n + length part.lines + 1) column) sent
      → out ≡ concat part.texts ++ sent → WriteEnds files w n part out

-- the reply of each line that was done was written, or of each but the last
pub record MemoryEnds (part : RunPart) (out : List ℕ) : Type 0 where
  pub sent : List (List ℕ)
  pub unsent : List (List ℕ)
  pub texts : part.texts ≡ sent ++ unsent
  pub last : length unsent ≤ 1
  pub is : out ≡ concat sent

-- the lines that were done are the whole lines of the bytes that were read, and the source has the others left
pub record ReadEnds (bytes : List ℕ) (left : Option (List ℕ)) (part : RunPart) (out : List ℕ) : Type 0 where
  pub got : List ℕ
  pub rest : List ℕ
  pub has : MayHave left rest
  pub split : bytes ≡ got ++ rest
  pub lines : part.lines ≡ whole_lines_of got
  pub is : out ≡ concat part.texts

-- By the status: where the run stopped in bytes, what the source has left, and what was written. n lines came before, and all that were done left this world.
abbrev pub RunEnds : Bool → World → ℕ → Status → List ℕ → Option (List ℕ) → RunPart → List ℕ → Type 0
-- all lines were done, the input was read to its end, and each reply was written
RunEnds files w n Done bytes left part out = (part.others ≡ []) × MayHave left [] × (out ≡ concat part.texts)
-- the next line ends the run, and the last line of the output says so
RunEnds files w n (BadLine line column) bytes left part out =
    (line ≡ n + length part.lines + 1) × IsBadNext files w part.others column × (n + length part.lines < 1000000) × (out ≡ concat part.texts ++ bad_text line column)
RunEnds files w n ReadFault bytes left part out = ReadEnds bytes left part out
RunEnds files w n WriteFault bytes left part out = WriteEnds files w n part out
RunEnds files w n OutOfMemory bytes left part out = MemoryEnds part out
-- so many lines were done, and another byte follows
RunEnds files w n TooLong bytes left part out = (n + length part.lines ≡ 1000000) × IsNonEmpty part.others × (out ≡ concat part.texts)
RunEnds files w n Usage bytes left part out = ⊥

-- what want of memory may leave of a line that was read, over disks that tell their contents or not
abbrev pub PartOfLine : Type 0 → Result (Option ScriptLine) ℕ → Doubted → Doubted → Type 0
PartOfLine told (Ok (Some words)) d last = ShortFull told d words last
PartOfLine told (Ok None) d last = last ≡ d
PartOfLine told (Err column) d last = last ≡ d

-- the same of the next of these lines
abbrev pub PartOfNext : Type 0 → List (List ℕ) → Doubted → Doubted → Type 0
PartOfNext told [] d last = last ≡ d
PartOfNext told (line ∷ lines) d last = PartOfLine told (script_line line) d last

-- whether want of memory may leave a part of a line that makes a replicated volume group, or of a recovery or an import of a site that has one over its group
abbrev pub may_short : World → ScriptLine → Bool
may_short w (Rvg site srl maps volumes) = true
may_short w (GroupImport site) = is_over_rvg (w.nodes (short_place w (GroupImport site)))
may_short w (Recover site) = is_over_rvg (w.nodes (short_place w (Recover site)))
may_short w other = false

-- a line that was read is none of which want of memory may leave a part
abbrev pub GoesWhole : World → Result (Option ScriptLine) ℕ → Type 0
GoesWhole w (Ok (Some words)) = (may_stop w words ≡ false) × (may_short w words ≡ false)
GoesWhole w (Ok None) = Unit {0}
GoesWhole w (Err column) = Unit {0}

-- nor is the next of these lines
abbrev pub NextGoesWhole : World → List (List ℕ) → Type 0
NextGoesWhole w [] = Unit {0}
NextGoesWhole w (line ∷ lines) = GoesWhole w (script_line line)

-- The last world of a run, by the status: the one behind the lines that were done. Only for want of memory is the next line done in part.
abbrev pub LastWorld : Type 0 → Status → List (List ℕ) → Doubted → Doubted → Type 0
LastWorld told OutOfMemory others d last = PartOfNext told others d last
LastWorld told other others d last = last ≡ d

-- What a run over these bytes came to, from a world in which n lines were done. Its lines are the first of the bytes', and
-- each is a step. What was written is their replies, by the status. The counts of the disks rose by the failed calls.
pub record RunOutcome (told : Type 0) (files : Bool) (Leaves : Doubted → Type 0) (n : ℕ) (old : Doubted) (bytes : List ℕ) (status : Status)
    (left written now_written : Option (List ℕ)) (faults now_faults : ℕ → ℕ → ℕ) : Type 0 where
  pub part : RunPart
  pub world : Doubted
  pub out : List ℕ
  pub split : split_lines bytes ≡ part.lines ++ part.others
  pub few : n + length part.lines ≤ 1000000
  pub behind : Doubted
  pub run : RunsLines told files old part.lines part.failures part.texts behind
  pub last : LastWorld told status part.others behind world
  pub ends : RunEnds files behind.world n status bytes left part out
  pub appends : Appends written now_written out
  pub rose : RoseAll (fails_of_lines part.failures) faults now_faults
  pub leaves : Leaves world

-- What a run came to over its whole input, which is the one that the source told, if it told any.
pub record RunIs (told : Type 0) (files : Bool) (Leaves : Doubted → Type 0) (status : Status)
    (left now_left written now_written : Option (List ℕ)) (faults now_faults : ℕ → ℕ → ℕ) : Type 0 where
  pub input : List ℕ
  pub has : MayHave left input
  pub outcome : RunOutcome told files Leaves 0 (sure empty_world) input status now_left written now_written faults now_faults
