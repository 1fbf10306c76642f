-- One turn of the loop, and the loop.
use Rattle.std.proofs.Common.{◌≡◌, ◌≤◌, ◌<◌, ℕ, ◌+◌, Bool, false, List, [], ◌∷◌, ◌++◌, Option, Some, None, Result, Ok, Err, refl, arith, sym, subst, ◌∙◌, append-nil, inl, inr, ◌⊎◌}
use Rattle.std.specs.Io.KnownBytes.{Appends}
use Rattle.vx_history.specs.Doubts.{Doubted}
use Rattle.vx_history.specs.World.{empty_world}
use Rattle.vx_events.specs.Doubts.{sure}
use Rattle.vx_events.specs.OpenLines.{EndsRun}
use Rattle.vx_disk.specs.declared.shelf.Shelf.{Ghosts}
use Rattle.vx_script.specs.Lines.{split_lines, HasNoNewline}
use Rattle.vx_script.specs.declared.line.ScriptLine.{ScriptLine}
use Rattle.vx_script.proofs.LineLemmas.{whole_lines_of_last, some_line}
use Rattle.vx_stream.specs.Causes.{StreamRose}
use Rattle.vx_stream.proofs.SendLemmas.{appends_none, appends_then}
use Rattle.vx_yard.specs.declared.yard.Yard.{Yard}
use Rattle.vx_yard.specs.Lines.{script_line}
use Rattle.vx_yard.specs.Steps.{SaidStep}
use Rattle.vx_yard.specs.Standing.{Serves, StaysFor, StepsFor, StopsAbove}
use Rattle.vx_yard.specs.Yards.{IsTold, count_of, in_files}
use Rattle.vx_cli.specs.declared.reader.Next.TheVariants as nexts
use Rattle.vx_cli.specs.declared.status.Status.{Status}
use Rattle.vx_cli.specs.declared.status.Status.TheVariants.{Done, Usage, BadLine, ReadFault, WriteFault, OutOfMemory, TooLong}
use Rattle.vx_cli.specs.Reading.{MayHave, Ahead, FollowsInput, IsWholeLine, IsLong, IsByteAhead, NextIs}
use Rattle.vx_cli.specs.Texts.{bad_text}
use Rattle.vx_cli.specs.Ends.{IsBadLine, IsNonEmpty, OpenLine, WrongLine, AtReply, AtBad, RunEnds, PartOfLine, PartOfNext, RunOutcome}
use Rattle.vx_cli.specs.Turns.{BadIs, Did, DidPart, StaysServing, MemoryStops, StopsBefore, StopsWithin, StopsBehind, WriteStops, StopsAtReply, StopsAtBad, AnswerIs, YardComes, TurnIs, TurnReaches}
use Rattle.vx_cli.proofs.StepLemmas.{script_line_long, rose_none, line_told}
use Rattle.vx_cli.proofs.EndsLemmas.{no_part, one_part, outcome_more, ends_within, ends_here, ends_one, bad_next, bad_first, zero_more}
use Rattle.vx_cli.proofs.ReaderLemmas.{ahead_some}
use Rattle.vx_cli.proofs.Sounds.{said_calm, said_good, short_calm, short_full_good}

-- a count that rose behind one that did not fall
pub rose_behind : (a b c : ℕ) → a ≤ b → StreamRose b c → StreamRose a c
rose_behind a b c later rose = record { fell_not = omega (arith, later, rose.fell_not); rose = omega (arith, later, rose.rose) }

-- what is written of a line at which the run ends, behind nothing
bad_behind : (line column : ℕ) (status : Status) (w0 w1 w2 : Option (List ℕ)) → Appends w0 w1 [] → BadIs line column status w1 w2 → BadIs line column status w0 w2
bad_behind line column (BadLine l c) w0 w1 w2 none is = (is.0, is.1, appends_then w0 w1 w2 [] (bad_text line column) none is.2)
bad_behind line column WriteFault w0 w1 w2 none is = (is.0, is.1, appends_then w0 w1 w2 [] is.0 none is.2)
bad_behind line column OutOfMemory w0 w1 w2 none is = appends_then w0 w1 w2 [] [] none is
bad_behind line column Done w0 w1 w2 none is = absurd is
bad_behind line column Usage w0 w1 w2 none is = absurd is
bad_behind line column ReadFault w0 w1 w2 none is = absurd is
bad_behind line column TooLong w0 w1 w2 none is = absurd is

module _ {R : Type 0} {g : Ghosts R} where
  -- nothing was done
  pub stays : (w : Doubted) (y : Yard R g) → Serves w y → StaysServing w y y
  stays w y serves = record { serves = serves; rose = rose_none (count_of y) }

  -- an empty line or a comment
  pub did_nothing : (w : Doubted) (line : List ℕ) (y : Yard R g) → script_line line ≡ Ok None → Serves w y → Did w line y y []
  did_nothing w line y e serves = record {
    world = w;
    fails = [];
    step = subst (λ (r : Result (Option ScriptLine) ℕ). SaidStep (IsTold y) (in_files y) w r [] [] w) (sym e) (refl, refl, refl);
    serves = serves;
    rose = rose_none (count_of y);
  }

  -- a line that the yard did
  pub did_line : (w : Doubted) (line : List ℕ) (words : ScriptLine) (old new : Yard R g) (text : List ℕ) → script_line line ≡ Ok (Some words) → Serves w old → (IsTold new → IsTold old) → StepsFor w words old new text
      → Did w line old new text
  did_line w line words old new text e serves told steps =
      let step : SaidStep (IsTold new) (in_files old) w (script_line line) steps.fails text steps.next =
      subst (λ (r : Result (Option ScriptLine) ℕ). SaidStep (IsTold new) (in_files old) w r steps.fails text steps.next) (sym e) steps.prints in
      record {
        world = steps.next;
        fails = steps.fails;
        step = step;
        serves = record {
          stands = steps.stands;
          carries = steps.carries serves.carries;
          good = λ t calm.
              let was : w.strayed ≡ false = said_calm (IsTold new) (in_files old) w (script_line line) steps.fails text steps.next step calm in
              said_good t (in_files old) w (script_line line) steps.fails text steps.next (serves.good (told t) was) calm step;
        };
        rose = steps.rose;
      }

  -- a line within which memory ran out
  did_part : (w : Doubted) (words : ScriptLine) (old new : Yard R g) → Serves w old → (IsTold new → IsTold old) → StopsAbove w words old new → DidPart w words old new
  did_part w words old new serves told stops = record {
    next = stops.next;
    part = stops.part;
    serves = record {
      stands = stops.stands;
      carries = stops.carries serves.carries;
      good = λ t calm.
          let was : w.strayed ≡ false = short_calm (IsTold new) w words stops.next stops.part calm in
          short_full_good t w words stops.next (serves.good (told t) was) was stops.part;
    };
    rose = stops.rose;
  }

  pub memory_answer : (w : Doubted) (line : List ℕ) (words : ScriptLine) (old new : Yard R g) → script_line line ≡ Ok (Some words) → Serves w old → (IsTold new → IsTold old)
      → StopsAbove w words old new ⊎ ((text : List ℕ) × StepsFor w words old new text) → MemoryStops w line old new
  memory_answer w line words old new e serves told (inl short) = StopsWithin words e (did_part w words old new serves told short)
  memory_answer w line words old new e serves told (inr did) = StopsBehind did.0 (did_line w line words old new did.0 e serves told did.1)

  -- a line at which the run ends
  ends_answer : (n : ℕ) (w : Doubted) (line : List ℕ) (column : ℕ) (status : Status) (old new : Yard R g) (w0 w1 : Option (List ℕ))
      → IsBadLine (in_files old) w.world line column → StaysServing w old new → BadIs (n + 1) column status w0 w1 → AnswerIs n w line (Some status) old new w0 w1
  ends_answer n w line column (BadLine l c) old new w0 w1 bad same is = (
    is.0,
    subst (λ (k : ℕ). IsBadLine (in_files old) w.world line k) (sym is.1) bad,
    same,
    subst (λ (k : ℕ). Appends w0 w1 (bad_text k c)) (sym is.0) (subst (λ (k : ℕ). Appends w0 w1 (bad_text (n + 1) k)) (sym is.1) is.2),
  )
  ends_answer n w line column WriteFault old new w0 w1 bad same is = StopsAtBad column is.0 bad same is.1 is.2
  ends_answer n w line column OutOfMemory old new w0 w1 bad same is = (StopsBefore same, is)
  ends_answer n w line column Done old new w0 w1 bad same is = absurd is
  ends_answer n w line column Usage old new w0 w1 bad same is = absurd is
  ends_answer n w line column ReadFault old new w0 w1 bad same is = absurd is
  ends_answer n w line column TooLong old new w0 w1 bad same is = absurd is

  pub bad_answer : (n : ℕ) (w : Doubted) (line : List ℕ) (column : ℕ) (status : Status) (y : Yard R g) (w0 w1 : Option (List ℕ))
      → script_line line ≡ Err column → Serves w y → BadIs (n + 1) column status w0 w1 → AnswerIs n w line (Some status) y y w0 w1
  bad_answer n w line column status y w0 w1 e serves is = ends_answer n w line column status y y w0 w1 (WrongLine e) (stays w y serves) is

  -- an open one, before which nothing was written
  pub open_answer : (n : ℕ) (w : Doubted) (line : List ℕ) (words : ScriptLine) (status : Status) (old new : Yard R g) (w0 w1 w2 : Option (List ℕ)) → script_line line ≡ Ok (Some words)
      → Serves w old → (IsTold new → IsTold old) → EndsRun (in_files old) w.world words × StaysFor w old new × Appends w0 w1 [] → BadIs (n + 1) 1 status w1 w2
      → AnswerIs n w line (Some status) old new w0 w2
  open_answer n w line words status old new w0 w1 w2 e serves told it is =
      let same : StaysServing w old new = record {
        serves = record { stands = it.1.stands; carries = it.1.carries serves.carries; good = λ t. serves.good (told t) };
        rose = it.1.rose;
      } in
      ends_answer n w line 1 status old new w0 w2 (OpenLine words e it.0 refl) same (bad_behind (n + 1) 1 status w0 w1 w2 it.2 is)

  -- the run ends before its next line
  comes_here : (n : ℕ) (w : Doubted) (held : List ℕ) (left : Option (List ℕ)) (bytes : List ℕ) (status : Status) (old new : Yard R g) (now_left w0 w1 : Option (List ℕ)) (out : List ℕ)
      → Ahead held left bytes → n ≤ 1000000 → RunEnds (in_files old) w.world n status bytes now_left (no_part bytes) out → Appends w0 w1 out → StaysServing w old new
      → YardComes n w held left status old new now_left w0 w1
  comes_here n w held left bytes status old new now_left w0 w1 out ahead few ends wrote same = record {
    bytes = bytes;
    ahead = ahead;
    outcome = ends_here n w bytes status now_left w0 w1 (count_of old) (count_of new) out few ends wrote same.rose same.serves;
  }

  -- the run ends with a line
  comes_one : (n : ℕ) (w : Doubted) (held : List ℕ) (left : Option (List ℕ)) (bytes line : List ℕ) (others : List (List ℕ)) (status : Status) (old new : Yard R g)
      (now_left w0 w1 : Option (List ℕ)) (text out : List ℕ) → Ahead held left bytes → n < 1000000 → split_lines bytes ≡ line ∷ others → (did : Did w line old new text)
      → RunEnds (in_files old) did.world.world n status bytes now_left (one_part line others did.fails text) out → Appends w0 w1 out → YardComes n w held left status old new now_left w0 w1
  comes_one n w held left bytes line others status old new now_left w0 w1 text out ahead few split did ends wrote = record {
    bytes = bytes;
    ahead = ahead;
    outcome = ends_one n w did.world bytes line others status now_left w0 w1 (count_of old) (count_of new) did.fails text out few split did.step did.rose ends wrote did.serves;
  }

  write_stops : (n : ℕ) (w : Doubted) (held : List ℕ) (left : Option (List ℕ)) (bytes line : List ℕ) (others : List (List ℕ)) (old new : Yard R g) (now_left w0 w1 : Option (List ℕ))
      → Ahead held left bytes → split_lines bytes ≡ line ∷ others → WriteStops n w line old new w0 w1 → n < 1000000 → YardComes n w held left WriteFault old new now_left w0 w1
  write_stops n w held left bytes line others old new now_left w0 w1 ahead split (StopsAtReply text sent did cut wrote) few =
      comes_one n w held left bytes line others WriteFault old new now_left w0 w1 text sent ahead few split did (AtReply [] text sent refl cut refl) wrote
  write_stops n w held left bytes line others old new now_left w0 w1 ahead split (StopsAtBad column sent e same cut wrote) few =
      comes_here n w held left bytes WriteFault old new now_left w0 w1 sent ahead (omega arith)
      (AtBad column sent (bad_next (in_files old) w.world (split_lines bytes) line others column split e) (omega arith) (bad_first n column sent cut) refl) wrote same

  -- memory ran out within a line
  comes_within : (n : ℕ) (w : Doubted) (held : List ℕ) (left : Option (List ℕ)) (bytes line : List ℕ) (others : List (List ℕ)) (words : ScriptLine) (old new : Yard R g)
      (now_left w0 w1 : Option (List ℕ)) → Ahead held left bytes → split_lines bytes ≡ line ∷ others → n < 1000000 → script_line line ≡ Ok (Some words)
      → DidPart w words old new → Appends w0 w1 [] → YardComes n w held left OutOfMemory old new now_left w0 w1
  comes_within n w held left bytes line others words old new now_left w0 w1 ahead split few e short wrote =
      let part : PartOfLine (IsTold new) (script_line line) w short.next = subst (λ (r : Result (Option ScriptLine) ℕ). PartOfLine (IsTold new) r w short.next) (sym e) short.part in
      record {
        bytes = bytes;
        ahead = ahead;
        outcome = ends_within n w short.next bytes OutOfMemory now_left w0 w1 (count_of old) (count_of new) [] (omega arith)
            (subst (λ (ls : List (List ℕ)). PartOfNext (IsTold new) ls w short.next) (sym split) part)
            (record { sent = []; unsent = []; texts = refl; last = omega arith; is = refl }) wrote short.rose short.serves;
      }

  memory_stops : (n : ℕ) (w : Doubted) (held : List ℕ) (left : Option (List ℕ)) (bytes line : List ℕ) (others : List (List ℕ)) (old new : Yard R g) (now_left w0 w1 : Option (List ℕ))
      → Ahead held left bytes → split_lines bytes ≡ line ∷ others → MemoryStops w line old new → Appends w0 w1 [] → n < 1000000
      → YardComes n w held left OutOfMemory old new now_left w0 w1
  memory_stops n w held left bytes line others old new now_left w0 w1 ahead split (StopsBefore same) wrote few =
      comes_here n w held left bytes OutOfMemory old new now_left w0 w1 [] ahead (omega arith) (record { sent = []; unsent = []; texts = refl; last = omega arith; is = refl }) wrote same
  memory_stops n w held left bytes line others old new now_left w0 w1 ahead split (StopsWithin words e short) wrote few =
      comes_within n w held left bytes line others words old new now_left w0 w1 ahead split few e short wrote
  memory_stops n w held left bytes line others old new now_left w0 w1 ahead split (StopsBehind text did) wrote few =
      comes_one n w held left bytes line others OutOfMemory old new now_left w0 w1 text [] ahead few split did
      (record { sent = []; unsent = text ∷ []; texts = refl; last = omega arith; is = refl }) wrote

  -- the run ends at a line that was read
  pub turn_stop : (n : ℕ) (w : Doubted) (held : List ℕ) (left : Option (List ℕ)) (bytes line : List ℕ) (others : List (List ℕ)) (status : Status) (old new : Yard R g)
      (now_left w0 w1 : Option (List ℕ)) → Ahead held left bytes → split_lines bytes ≡ line ∷ others → AnswerIs n w line (Some status) old new w0 w1 → n < 1000000
      → YardComes n w held left status old new now_left w0 w1
  turn_stop n w held left bytes line others (BadLine at column) old new now_left w0 w1 ahead split is few =
      comes_here n w held left bytes (BadLine at column) old new now_left w0 w1 (bad_text at column) ahead (omega arith)
      (is.0 ∙ zero_more n, bad_next (in_files old) w.world (split_lines bytes) line others column split is.1, omega arith, refl) is.3 is.2
  turn_stop n w held left bytes line others WriteFault old new now_left w0 w1 ahead split is few = write_stops n w held left bytes line others old new now_left w0 w1 ahead split is few
  turn_stop n w held left bytes line others OutOfMemory old new now_left w0 w1 ahead split is few =
      memory_stops n w held left bytes line others old new now_left w0 w1 ahead split is.0 is.1 few
  turn_stop n w held left bytes line others Done old new now_left w0 w1 ahead split is few = absurd is
  turn_stop n w held left bytes line others Usage old new now_left w0 w1 ahead split is few = absurd is
  turn_stop n w held left bytes line others ReadFault old new now_left w0 w1 ahead split is few = absurd is
  turn_stop n w held left bytes line others TooLong old new now_left w0 w1 ahead split is few = absurd is

  -- a whole line was answered
  pub turn_line : (n : ℕ) (w : Doubted) (held : List ℕ) (left : Option (List ℕ)) (line : List ℕ) (r : Option Status) (old new : Yard R g) (now_held : List ℕ) (now_left w0 w1 : Option (List ℕ))
      → NextIs held left (Ok nexts.Line) line now_held now_left → AnswerIs n w line r old new w0 w1 → n < 1000000 → TurnIs n w held left r old new now_held now_left w0 w1
  turn_line n w held left line None old new now_held now_left w0 w1 next is few = (line, next.0, next.1, next.2, is)
  turn_line n w held left line (Some status) old new now_held now_left w0 w1 next is few =
      let after = ahead_some now_held now_left in
      turn_stop n w held left (next.0 ++ after.0) line (split_lines after.0) status old new now_left w0 w1 (next.2.before after.0 after.1) (next.1.lines after.0) is few

  -- the last line was answered
  pub turn_last : (n : ℕ) (w : Doubted) (held : List ℕ) (left : Option (List ℕ)) (line : List ℕ) (old new : Yard R g) (now_held : List ℕ) (now_left w0 w1 : Option (List ℕ))
      → NextIs held left (Ok nexts.Last) line now_held now_left → AnswerIs n w line None old new w0 w1 → n < 1000000 → YardComes n w held left Done old new now_left w0 w1
  turn_last n w held left line old new now_held now_left w0 w1 next is few =
      comes_one n w held left next.0.bytes line [] Done old new now_left w0 w1 is.0 is.0 next.0.ahead few next.0.lines is.1 (refl, next.1, sym (append-nil is.0)) is.2

  -- the run ended at the last line
  pub turn_last_stop : (n : ℕ) (w : Doubted) (held : List ℕ) (left : Option (List ℕ)) (line : List ℕ) (status : Status) (old new : Yard R g) (now_held : List ℕ) (now_left w0 w1 : Option (List ℕ))
      → NextIs held left (Ok nexts.Last) line now_held now_left → AnswerIs n w line (Some status) old new w0 w1 → n < 1000000 → YardComes n w held left status old new now_left w0 w1
  turn_last_stop n w held left line status old new now_held now_left w0 w1 next is few =
      turn_stop n w held left next.0.bytes line [] status old new now_left w0 w1 next.0.ahead next.0.lines is few

  -- nothing was left to read
  pub turn_end : (n : ℕ) (w : Doubted) (held : List ℕ) (left : Option (List ℕ)) (y : Yard R g) (now_left written : Option (List ℕ))
      → Ahead held left [] → MayHave now_left [] → n ≤ 1000000 → Serves w y → YardComes n w held left Done y y now_left written written
  turn_end n w held left y now_left written ahead end few serves =
      comes_here n w held left [] Done y y now_left written written [] ahead few (refl, end, refl) (appends_none written) (stays w y serves)

  -- the source failed
  pub turn_fault : (n : ℕ) (w : Doubted) (held : List ℕ) (left : Option (List ℕ)) (y : Yard R g) (now_held : List ℕ) (now_left written : Option (List ℕ))
      → HasNoNewline now_held → FollowsInput held left [] now_held now_left → n ≤ 1000000 → Serves w y → YardComes n w held left ReadFault y y now_left written written
  turn_fault n w held left y now_held now_left written plain follows few serves =
      let some = ahead_some now_held now_left in let at = some.1 in
      comes_here n w held left some.0 ReadFault y y now_left written written [] (follows.before some.0 at) few
      (record { got = now_held; rest = at.rest; has = at.has; split = at.is; lines = sym (whole_lines_of_last now_held plain); is = refl }) (appends_none written) (stays w y serves)

  -- memory ran out
  pub turn_memory : (n : ℕ) (w : Doubted) (held : List ℕ) (left : Option (List ℕ)) (y : Yard R g) (now_left written : Option (List ℕ))
      → n ≤ 1000000 → Serves w y → YardComes n w held left OutOfMemory y y now_left written written
  turn_memory n w held left y now_left written few serves =
      let some = ahead_some held left in
      comes_here n w held left some.0 OutOfMemory y y now_left written written [] some.1 few (record { sent = []; unsent = []; texts = refl; last = omega arith; is = refl }) (appends_none written) (stays w y serves)

  -- a line was too long
  pub turn_long : (n : ℕ) (w : Doubted) (held : List ℕ) (left : Option (List ℕ)) (status : Status) (y : Yard R g) (now_left w0 w1 : Option (List ℕ))
      → IsLong held left → BadIs (n + 1) 4097 status w0 w1 → n < 1000000 → Serves w y → YardComes n w held left status y y now_left w0 w1
  turn_long n w held left status y now_left w0 w1 long is few serves =
      turn_stop n w held left long.bytes long.line long.others status y y now_left w0 w1 long.ahead long.lines
      (bad_answer n w long.line 4097 status y w0 w1 (script_line_long long.line long.long) serves is) few

  -- as many lines as may be were done, and another byte follows
  pub turn_most : (n : ℕ) (w : Doubted) (held : List ℕ) (left : Option (List ℕ)) (y : Yard R g) (now_left written : Option (List ℕ))
      → n ≡ 1000000 → IsByteAhead held left → Serves w y → YardComes n w held left TooLong y y now_left written written
  turn_most n w held left y now_left written most more serves =
      let first = some_line more.first more.others in
      comes_here n w held left (more.first ∷ more.others) TooLong y y now_left written written [] more.ahead (omega (arith, most))
      (omega (arith, most), subst IsNonEmpty (sym first.2) tt, refl) (appends_none written) (stays w y serves)

  -- the rest of a run with a line before it
  pub comes_more : (n : ℕ) (w : Doubted) (held : List ℕ) (left : Option (List ℕ)) (raw line text now_held : List ℕ) (now_left : Option (List ℕ)) (status : Status) (old new last : Yard R g)
      (last_left w0 w1 w2 : Option (List ℕ)) → IsWholeLine raw line → FollowsInput held left raw now_held now_left → (did : Did w line old new text) → Appends w0 w1 text
      → (IsTold last → IsTold new) → in_files new ≡ in_files old
      → YardComes (n + 1) did.world now_held now_left status new last last_left w1 w2 → YardComes n w held left status old last last_left w0 w2
  comes_more n w held left raw line text now_held now_left status old new last last_left w0 w1 w2 whole follows did wrote told files rest =
      record {
        bytes = raw ++ rest.bytes;
        ahead = follows.before rest.bytes rest.ahead;
        outcome = outcome_more n w did.world raw line rest.bytes status last_left w0 w1 w2 (count_of old) (count_of new) (count_of last) did.fails text whole
            (line_told told (in_files old) w line did.fails text did.world did.step) wrote did.rose
            (subst (λ (f : Bool). RunOutcome (IsTold last) f (λ v. Serves v last) (n + 1) did.world rest.bytes status last_left w1 w2 (count_of new) (count_of last)) files rest.outcome);
      }

  -- where the loop begins, and where it stands after one more line
  pub reaches_first : (y : Yard R g) (held : List ℕ) (left written : Option (List ℕ)) → Serves (sure empty_world) y → held ≡ [] → TurnReaches 0 y y [] held left left written written
  reaches_first y held left written serves none = subst (λ (h : List ℕ). TurnReaches 0 y y [] h left left written written) (sym none)
      (record { world = (sure empty_world); serves = serves; goes = λ last status last_left last_written told rest. rest })

  pub reaches_more : (n : ℕ) (first old new : Yard R g) (held0 held now_held : List ℕ) (left0 left now_left w0 w1 w2 : Option (List ℕ))
      → (at : TurnReaches n first old held0 held left0 left w0 w1) → TurnIs n at.world held left None old new now_held now_left w1 w2
      → (IsTold new → IsTold old) → in_files new ≡ in_files old → TurnReaches (n + 1) first new held0 now_held left0 now_left w0 w2
  reaches_more n first old new held0 held now_held left0 left now_left w0 w1 w2 at is told files =
      let did = is.4.1 in
      record {
        world = did.world;
        serves = did.serves;
        goes = λ last status last_left last_written knows rest. at.goes last status last_left last_written (λ t. told (knows t))
            (comes_more n at.world held left is.1 is.0 is.4.0 now_held now_left status old new last last_left w1 w2 last_written is.2 is.3 did is.4.2 knows files rest);
      }

  -- the run ends in the middle of the loop
  pub reaches_end : (n : ℕ) (first now last : Yard R g) (held0 held : List ℕ) (left0 left w0 w1 : Option (List ℕ)) (status : Status) (last_left w2 : Option (List ℕ))
      → (at : TurnReaches n first now held0 held left0 left w0 w1) → (IsTold last → IsTold now) → YardComes n at.world held left status now last last_left w1 w2
      → YardComes 0 (sure empty_world) held0 left0 status first last last_left w0 w2
  reaches_end n first now last held0 held left0 left w0 w1 status last_left w2 at told rest = at.goes last status last_left w2 told rest
