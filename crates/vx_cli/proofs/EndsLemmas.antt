-- How the parts of a run are put together.
use Rattle.std.proofs.Common.{◌≡◌, ◌≤◌, ◌<◌, ℕ, suc, ◌+◌, Bool, List, [], ◌∷◌, ◌++◌, length, Option, Some, None, Result, Ok, Err, refl, arith, ap, sym, subst, ◌∙◌, append_assoc, append-nil, inl}
use Rattle.std.specs.List.{concat}
use Rattle.std.specs.Io.KnownBytes.{Appends}
use Rattle.vx_history.specs.Doubts.{Doubted}
use Rattle.vx_history.specs.World.{World}
use Rattle.vx_script.specs.Lines.{split_lines}
use Rattle.vx_script.specs.declared.line.ScriptLine.{ScriptLine}
use Rattle.vx_stream.proofs.SendLemmas.{appends_then}
use Rattle.vx_yard.specs.Lines.{script_line}
use Rattle.vx_yard.specs.Stands.{RoseAll}
use Rattle.vx_yard.specs.Steps.{BytesStep}
use Rattle.vx_events.specs.Fails.{Fails}
use Rattle.vx_events.specs.Parts.{StopsInPart}
use Rattle.vx_events.proofs.Parts.{none_done}
use Rattle.vx_cli.specs.declared.status.Status.{Status}
use Rattle.vx_cli.specs.declared.status.Status.TheVariants.{Done, Usage, BadLine, ReadFault, WriteFault, OutOfMemory, TooLong}
use Rattle.vx_cli.specs.Reading.{IsWholeLine}
use Rattle.vx_cli.specs.Runs.{fails_of_lines}
use Rattle.vx_cli.specs.Texts.{bad_text, IsTextCut}
use Rattle.vx_cli.specs.Ends.{IsBadLine, IsBadNext, RunPart, WriteEnds, AtReply, AtBad, MemoryEnds, ReadEnds, RunEnds, PartOfLine, PartOfNext, LastWorld, RunOutcome}
use Rattle.vx_cli.proofs.StepLemmas.{rose_more}

-- a number of lines, one further on
same_number : (n k : ℕ) → n + 1 + k ≡ n + suc k
same_number n k = omega arith

at_number : (n k column : ℕ) → bad_text (n + 1 + k + 1) column ≡ bad_text (n + suc k + 1) column
at_number n k column = ap (λ (m : ℕ). bad_text (m + 1) column) (same_number n k)

-- a line before the others of a part
abbrev pub with_line : List ℕ → Fails → List ℕ → RunPart → RunPart
with_line line fails text part = record { lines = line ∷ part.lines; others = part.others; failures = fails ∷ part.failures; texts = text ∷ part.texts }

onto_text : (text out all end : List ℕ) → out ≡ all ++ end → text ++ out ≡ (text ++ all) ++ end
onto_text text out all end e = ap (λ (t : List ℕ). text ++ t) e ∙ sym (append_assoc text all end)

write_more : (files : Bool) (w : World) (n : ℕ) (part : RunPart) (line : List ℕ) (fails : Fails) (text out : List ℕ) → WriteEnds files w (n + 1) part out
    → WriteEnds files w n (with_line line fails text part) (text ++ out)
write_more files w n part line fails text out (AtReply before last sent e cut is) =
    AtReply (text ∷ before) last sent (ap (λ (ts : List (List ℕ)). text ∷ ts) e) cut (onto_text text out (concat before) sent is)
write_more files w n part line fails text out (AtBad column sent bad few cut is) =
    AtBad column sent bad (omega (arith, few)) (subst (λ (t : List ℕ). IsTextCut t sent) (at_number n (length part.lines) column) cut) (onto_text text out (concat part.texts) sent is)

memory_more : (part : RunPart) (line : List ℕ) (fails : Fails) (text out : List ℕ) → MemoryEnds part out → MemoryEnds (with_line line fails text part) (text ++ out)
memory_more part line fails text out x =
    record { sent = text ∷ x.sent; unsent = x.unsent; texts = ap (λ (ts : List (List ℕ)). text ∷ ts) x.texts; last = x.last; is = ap (λ (t : List ℕ). text ++ t) x.is }

read_more : (raw line after : List ℕ) (left : Option (List ℕ)) (part : RunPart) (fails : Fails) (text out : List ℕ) → IsWholeLine raw line → ReadEnds after left part out
    → ReadEnds (raw ++ after) left (with_line line fails text part) (text ++ out)
read_more raw line after left part fails text out whole x = record {
  got = raw ++ x.got;
  rest = x.rest;
  has = x.has;
  split = ap (λ (t : List ℕ). raw ++ t) x.split ∙ sym (append_assoc raw x.got x.rest);
  lines = ap (λ (ls : List (List ℕ)). line ∷ ls) x.lines ∙ sym (whole.whole x.got);
  is = ap (λ (t : List ℕ). text ++ t) x.is;
}

ends_more : (files : Bool) (w : World) (n : ℕ) (status : Status) (raw line after : List ℕ) (left : Option (List ℕ)) (part : RunPart) (fails : Fails) (text out : List ℕ)
    → IsWholeLine raw line → RunEnds files w (n + 1) status after left part out → RunEnds files w n status (raw ++ after) left (with_line line fails text part) (text ++ out)
ends_more files w n Done raw line after left part fails text out whole is = (is.0, is.1, ap (λ (t : List ℕ). text ++ t) is.2)
ends_more files w n (BadLine at column) raw line after left part fails text out whole is = (
  is.0 ∙ ap (λ (k : ℕ). k + 1) (same_number n (length part.lines)),
  is.1,
  let h = is.2 in omega arith,
  onto_text text out (concat part.texts) (bad_text at column) is.3,
)
ends_more files w n ReadFault raw line after left part fails text out whole is = read_more raw line after left part fails text out whole is
ends_more files w n WriteFault raw line after left part fails text out whole is = write_more files w n part line fails text out is
ends_more files w n OutOfMemory raw line after left part fails text out whole is = memory_more part line fails text out is
ends_more files w n TooLong raw line after left part fails text out whole is =
    (sym (same_number n (length part.lines)) ∙ is.0, is.1, ap (λ (t : List ℕ). text ++ t) is.2)
ends_more files w n Usage raw line after left part fails text out whole is = absurd is

-- no line was done
abbrev pub no_part : List ℕ → RunPart
no_part bytes = record { lines = []; others = split_lines bytes; failures = []; texts = [] }

-- one line was done
abbrev pub one_part : List ℕ → List (List ℕ) → Fails → List ℕ → RunPart
one_part line others fails text = record { lines = line ∷ []; others = others; failures = fails ∷ []; texts = text ∷ [] }

-- nothing of the next line was done
none_of_line : (told : Type 0) (r : Result (Option ScriptLine) ℕ) (w : Doubted) → PartOfLine told r w w
none_of_line told (Ok (Some words)) w = inl (StopsInPart (none_done w words))
none_of_line told (Ok None) w = refl
none_of_line told (Err column) w = refl

none_of_next : (told : Type 0) (others : List (List ℕ)) (w : Doubted) → PartOfNext told others w w
none_of_next told [] w = refl
none_of_next told (line ∷ lines) w = none_of_line told (script_line line) w

last_same : (told : Type 0) (status : Status) (others : List (List ℕ)) (w : Doubted) → LastWorld told status others w w
last_same told OutOfMemory others w = none_of_next told others w
last_same told other others w = refl

module _ {told : Type 0} {files : Bool} {Leaves : Doubted → Type 0} where
  -- a run goes on after a line as the rest does from there
  pub outcome_more : (n : ℕ) (old mid : Doubted) (raw line after : List ℕ) (status : Status) (left w0 w1 w2 : Option (List ℕ)) (f0 f1 f2 : ℕ → ℕ → ℕ) (fails : Fails) (text : List ℕ)
      → IsWholeLine raw line → BytesStep told files old line fails text mid → Appends w0 w1 text → RoseAll fails f0 f1
      → RunOutcome told files Leaves (n + 1) mid after status left w1 w2 f1 f2 → RunOutcome told files Leaves n old (raw ++ after) status left w0 w2 f0 f2
  outcome_more n old mid raw line after status left w0 w1 w2 f0 f1 f2 fails text whole step wrote rose rest =
      record {
        part = with_line line fails text rest.part;
        world = rest.world;
        out = text ++ rest.out;
        split = whole.lines after ∙ ap (λ (ls : List (List ℕ)). line ∷ ls) rest.split;
        few = let h = rest.few in omega arith;
        behind = rest.behind;
        run = (mid, step, rest.run);
        last = rest.last;
        ends = ends_more files rest.behind.world n status raw line after left rest.part fails text rest.out whole rest.ends;
        appends = appends_then w0 w1 w2 text rest.out wrote rest.appends;
        rose = rose_more fails (fails_of_lines rest.part.failures) f0 f1 f2 rose rest.rose;
        leaves = rest.leaves;
      }

  -- the run ends within its next line
  pub ends_within : (n : ℕ) (old new : Doubted) (bytes : List ℕ) (status : Status) (left w0 w1 : Option (List ℕ)) (f0 f1 : ℕ → ℕ → ℕ) (out : List ℕ)
      → n ≤ 1000000 → LastWorld told status (split_lines bytes) old new → RunEnds files old.world n status bytes left (no_part bytes) out → Appends w0 w1 out → RoseAll [] f0 f1 → Leaves new
      → RunOutcome told files Leaves n old bytes status left w0 w1 f0 f1
  ends_within n old new bytes status left w0 w1 f0 f1 out few last ends wrote rose leaves =
      record { part = no_part bytes; world = new; out = out; split = refl; few = omega arith; behind = old; run = refl; last = last; ends = ends; appends = wrote; rose = rose; leaves = leaves }

  -- the run ends before its next line
  pub ends_here : (n : ℕ) (old : Doubted) (bytes : List ℕ) (status : Status) (left w0 w1 : Option (List ℕ)) (f0 f1 : ℕ → ℕ → ℕ) (out : List ℕ)
      → n ≤ 1000000 → RunEnds files old.world n status bytes left (no_part bytes) out → Appends w0 w1 out → RoseAll [] f0 f1 → Leaves old
      → RunOutcome told files Leaves n old bytes status left w0 w1 f0 f1
  ends_here n old bytes status left w0 w1 f0 f1 out few ends wrote rose leaves =
      ends_within n old old bytes status left w0 w1 f0 f1 out few (last_same told status (split_lines bytes) old) ends wrote rose leaves

  -- the run ends with a line
  pub ends_one : (n : ℕ) (old new : Doubted) (bytes line : List ℕ) (others : List (List ℕ)) (status : Status) (left w0 w1 : Option (List ℕ)) (f0 f1 : ℕ → ℕ → ℕ)
      (fails : Fails) (text out : List ℕ) → n < 1000000 → split_lines bytes ≡ line ∷ others → BytesStep told files old line fails text new → RoseAll fails f0 f1
      → RunEnds files new.world n status bytes left (one_part line others fails text) out → Appends w0 w1 out → Leaves new → RunOutcome told files Leaves n old bytes status left w0 w1 f0 f1
  ends_one n old new bytes line others status left w0 w1 f0 f1 fails text out few split step rose ends wrote leaves =
      record {
        part = one_part line others fails text;
        world = new;
        out = out;
        split = split;
        few = omega arith;
        behind = new;
        run = (new, step, refl);
        last = last_same told status others new;
        ends = ends;
        appends = wrote;
        rose = subst (λ (fs : Fails). RoseAll fs f0 f1) (sym (append-nil fails)) rose;
        leaves = leaves;
      }

pub bad_next : (files : Bool) (w : World) (lines : List (List ℕ)) (line : List ℕ) (others : List (List ℕ)) (column : ℕ) → lines ≡ line ∷ others → IsBadLine files w line column
    → IsBadNext files w lines column
bad_next files w lines line others column e bad = subst (λ (ls : List (List ℕ)). IsBadNext files w ls column) (sym e) bad

pub zero_more : (n : ℕ) → n + 1 ≡ n + 0 + 1
zero_more n = omega arith

-- the first line was wrong
pub bad_first : (n column : ℕ) (sent : List ℕ) → IsTextCut (bad_text (n + 1) column) sent → IsTextCut (bad_text (n + 0 + 1) column) sent
bad_first n column sent cut = subst (λ (k : ℕ). IsTextCut (bad_text k column) sent) (zero_more n) cut
