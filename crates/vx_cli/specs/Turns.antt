-- What one turn of the loop does, and where the loop stands.
use Rattle.std.specs.Prelude.{◌≡◌, ℕ, ◌+◌, Bool, List, [], Option, Some, None, Ok}
use Rattle.std.specs.Io.KnownBytes.{Appends}
use Rattle.vx_history.specs.Doubts.{Doubted}
use Rattle.vx_history.specs.World.{empty_world}
use Rattle.vx_events.specs.Doubts.{sure}
use Rattle.vx_disk.specs.declared.shelf.Shelf.{Ghosts}
use Rattle.vx_script.specs.declared.line.ScriptLine.{ScriptLine}
use Rattle.vx_yard.specs.Lines.{script_line}
use Rattle.vx_yard.specs.Stands.{RoseAll}
use Rattle.vx_yard.specs.Steps.{BytesStep}
use Rattle.vx_events.specs.Fails.{Fails}
use Rattle.vx_events.specs.RvgParts.{ShortFull}
use Rattle.vx_yard.specs.Standing.{Serves}
use Rattle.vx_yard.specs.Yards.{IsTold, count_of, in_files}
use Rattle.vx_yard.specs.declared.yard.Yard.{Yard}
use Rattle.vx_cli.specs.Ends.{IsBadLine, RunOutcome}
use Rattle.vx_cli.specs.Reading.{Ahead, FollowsInput, IsWholeLine}
use Rattle.vx_cli.specs.Texts.{bad_text, IsTextCut}
use Rattle.vx_cli.specs.declared.status.Status.{Status}
use Rattle.vx_cli.specs.declared.status.Status.TheVariants.{BadLine, WriteFault, OutOfMemory}

-- the line that says where the script is wrong was written, or not all of it
abbrev pub BadIs : ℕ → ℕ → Status → Option (List ℕ) → Option (List ℕ) → Type 0
BadIs line column (BadLine l c) written now = (l ≡ line) × (c ≡ column) × Appends written now (bad_text line column)
BadIs line column WriteFault written now = (sent : List ℕ) × IsTextCut (bad_text line column) sent × Appends written now sent
BadIs line column OutOfMemory written now = Appends written now []
BadIs line column other written now = ⊥

-- What the rest of a run came to: over the bytes that are ahead.
pub record Comes (told : Type 0) (files : Bool) (Leaves : Doubted → Type 0) (n : ℕ) (d : Doubted) (held : List ℕ) (left : Option (List ℕ)) (status : Status)
    (now_left written now_written : Option (List ℕ)) (faults now_faults : ℕ → ℕ → ℕ) : Type 0 where
  pub bytes : List ℕ
  pub ahead : Ahead held left bytes
  pub outcome : RunOutcome told files Leaves n d bytes status now_left written now_written faults now_faults

module _ {R : Type 0} {g : Ghosts R} where
  -- a line was done, and its reply is this text
  pub record Did (d : Doubted) (line : List ℕ) (old new : Yard R g) (text : List ℕ) : Type 0 where
    pub world : Doubted
    pub fails : Fails
    pub step : BytesStep (IsTold new) (in_files old) d line fails text world
    pub serves : Serves world new
    pub rose : RoseAll fails (count_of old) (count_of new)

  -- nothing of a line was done
  pub record StaysServing (d : Doubted) (old new : Yard R g) : Type 0 where
    pub serves : Serves d new
    pub rose : RoseAll [] (count_of old) (count_of new)

  -- memory ran out within a line, which left this of it
  pub record DidPart (d : Doubted) (words : ScriptLine) (old new : Yard R g) : Type 0 where
    pub next : Doubted
    pub part : ShortFull (IsTold new) d words next
    pub serves : Serves next new
    pub rose : RoseAll [] (count_of old) (count_of new)

  -- memory ran out before a line was known, within it, or behind it
  pub data MemoryStops (d : Doubted) (line : List ℕ) (old new : Yard R g) : Type 0 where
    StopsBefore : StaysServing d old new → MemoryStops d line old new
    StopsWithin : (words : ScriptLine) → script_line line ≡ Ok (Some words) → DidPart d words old new → MemoryStops d line old new
    StopsBehind : (text : List ℕ) → Did d line old new text → MemoryStops d line old new

  -- the sink failed at a reply, or at the line that says where the script is wrong
  pub data WriteStops (n : ℕ) (d : Doubted) (line : List ℕ) (old new : Yard R g) (written now : Option (List ℕ)) : Type 0 where
    StopsAtReply : (text sent : List ℕ) → Did d line old new text → IsTextCut text sent → Appends written now sent → WriteStops n d line old new written now
    StopsAtBad : (column : ℕ) (sent : List ℕ) → IsBadLine (in_files old) d.world line column → StaysServing d old new → IsTextCut (bad_text (n + 1) column) sent → Appends written now sent
        → WriteStops n d line old new written now

  -- one line was answered, or the run ended at it
  abbrev pub AnswerIs : ℕ → Doubted → List ℕ → Option Status → Yard R g → Yard R g → Option (List ℕ) → Option (List ℕ) → Type 0
  AnswerIs n d line None old new written now = (text : List ℕ) × Did d line old new text × Appends written now text
  AnswerIs n d line (Some (BadLine at column)) old new written now =
      (at ≡ n + 1) × IsBadLine (in_files old) d.world line column × StaysServing d old new × Appends written now (bad_text at column)
  AnswerIs n d line (Some WriteFault) old new written now = WriteStops n d line old new written now
  AnswerIs n d line (Some OutOfMemory) old new written now = MemoryStops d line old new × Appends written now []
  AnswerIs n d line (Some other) old new written now = ⊥

  -- what the rest of a run came to, with the yard that it left
  abbrev pub YardComes : ℕ → Doubted → List ℕ → Option (List ℕ) → Status → Yard R g → Yard R g → Option (List ℕ) → Option (List ℕ) → Option (List ℕ) → Type 0
  YardComes n d held left status old new now_left written now =
      Comes (IsTold new) (in_files old) (λ v. Serves v new) n d held left status now_left written now (count_of old) (count_of new)

  -- one line was read and answered, or the run ended there
  abbrev pub TurnIs : ℕ → Doubted → List ℕ → Option (List ℕ) → Option Status → Yard R g → Yard R g → List ℕ → Option (List ℕ) → Option (List ℕ) → Option (List ℕ) → Type 0
  TurnIs n d held left None old new now_held now_left written now =
      (line : List ℕ) × (raw : List ℕ) × IsWholeLine raw line × FollowsInput held left raw now_held now_left × AnswerIs n d line None old new written now
  TurnIs n d held left (Some status) old new now_held now_left written now = YardComes n d held left status old new now_left written now

  -- Where the loop stands: what the rest comes to, the whole comes to.
  pub record TurnReaches (n : ℕ) (first now : Yard R g) (held0 held : List ℕ) (left0 left written0 written : Option (List ℕ)) : Type 0 where
    pub world : Doubted
    pub serves : Serves world now
    pub goes : (last : Yard R g) (status : Status) (last_left last_written : Option (List ℕ)) → (IsTold last → IsTold now)
        → YardComes n world held left status now last last_left written last_written → YardComes 0 (sure empty_world) held0 left0 status first last last_left written0 last_written
