-- Which status a run ends with, where nothing cuts it off.
use Rattle.std.proofs.Common.{◌≡◌, ◌⊎◌, ◌≤◌, ◌<◌, ℕ, ◌+◌, suc, Bool, List, [], ◌∷◌, ◌++◌, length, Option, Some, Result, Ok, Err, refl, arith, ap, sym, subst, ◌∙◌, length-append, append-nil, inl, inr, true, false, cond, eq-eqb}
use Rattle.std.specs.Prelude.{◌&&◌, ◌==◌}
use Rattle.std.proofs.lemmas.List.Sums.{sum_by-cons}
use Rattle.std.specs.Io.KnownBytes.{Appends}
use Rattle.vx_history.specs.Doubts.{Doubted}
use Rattle.vx_history.specs.World.{World, empty_world}
use Rattle.vx_events.specs.Doubts.{sure}
use Rattle.vx_script.specs.declared.line.ScriptLine.{ScriptLine}
use Rattle.vx_script.specs.Lines.{split_lines}
use Rattle.vx_stream.specs.Causes.{StreamRose}
use Rattle.vx_yard.specs.Lines.{script_line}
use Rattle.vx_yard.specs.Stands.{RoseAll, times}
use Rattle.vx_yard.specs.Steps.{SaidStep, BytesStep}
use Rattle.vx_events.specs.Fails.{Fails}
use Rattle.vx_events.specs.OpenLines.{EndsRun}
use Rattle.vx_cli.specs.declared.status.Status.{Status}
use Rattle.vx_cli.specs.declared.status.Status.TheVariants.{Done, Usage, BadLine, ReadFault, WriteFault, OutOfMemory, TooLong}
use Rattle.vx_cli.specs.Reading.{MayHave}
use Rattle.vx_cli.specs.Runs.{RunsLines, fails_of_lines}
use Rattle.vx_cli.specs.Ends.{IsBadNext, IsNonEmpty, OpenLine, RunOutcome, RunIs, WrongLine}
use Rattle.vx_cli.specs.Complete.{AllLinesGood, IsUncut, IsGoodScript, FirstBad, IsTooLong, IsStillCount, AreStill, no_fails, CleanRun, IsClean, StopsOpen}

-- the next of these lines is wrong, or it is open
abbrev WrongNext : List (List ℕ) → ℕ → Type 0
WrongNext [] column = ⊥
WrongNext (line ∷ lines) column = script_line line ≡ Err column

record OpenNext (files : Bool) (w : World) (others : List (List ℕ)) (column : ℕ) : Type 0 where
  next : List ℕ
  rest : List (List ℕ)
  split : others ≡ next ∷ rest
  words : ScriptLine
  says : script_line next ≡ Ok (Some words)
  ends : EndsRun files w words
  first : column ≡ 1

wrong_or_open : (files : Bool) (w : World) (others : List (List ℕ)) (column : ℕ) → IsBadNext files w others column → WrongNext others column ⊎ OpenNext files w others column
wrong_or_open files w [] column bad = absurd bad
wrong_or_open files w (line ∷ lines) column (WrongLine e) = inl e
wrong_or_open files w (line ∷ lines) column (OpenLine words e ends first) =
    inr (record { next = line; rest = lines; split = refl; words = words; says = e; ends = ends; first = first })

-- good lines alone end before the first wrong one
ends_before : (lines others before more : List (List ℕ)) (bad : List ℕ) (c : ℕ) → lines ++ others ≡ before ++ bad ∷ more → AllLinesGood lines → script_line bad ≡ Err c → length lines ≤ length before
ends_before [] others before more bad c e good wrong = omega arith
ends_before (line ∷ lines) others [] more bad c e good wrong = let same : line ≡ bad = cc in absurd (good.0 c (ap script_line same ∙ wrong))
ends_before (line ∷ lines) others (first ∷ before) more bad c e good wrong =
    let rest : lines ++ others ≡ before ++ bad ∷ more = cc in
    let below = ends_before lines others before more bad c rest good.1 wrong in omega (arith, below)

one_column : (a b : ℕ) (r : Result (Option ScriptLine) ℕ) → r ≡ Err a → r ≡ Err b → a ≡ b
one_column a b r p q = cc

-- two ways to say where the first wrong line stands are one
first_bad : (lines others before more : List (List ℕ)) (bad : List ℕ) (column c : ℕ) → lines ++ others ≡ before ++ bad ∷ more → AllLinesGood lines → AllLinesGood before
    → script_line bad ≡ Err c → WrongNext others column → (length lines ≡ length before) × (column ≡ c)
first_bad [] [] before more bad column c e good fine wrong next = absurd next
first_bad [] (line ∷ others) [] more bad column c e good fine wrong next =
    let same : line ≡ bad = cc in
    (refl, one_column column c (script_line bad) (ap script_line (sym same) ∙ next) wrong)
first_bad [] (line ∷ others) (first ∷ before) more bad column c e good fine wrong next =
    let same : line ≡ first = cc in absurd (fine.0 column (ap script_line (sym same) ∙ next))
first_bad (line ∷ lines) others [] more bad column c e good fine wrong next =
    let same : line ≡ bad = cc in absurd (good.0 c (ap script_line same ∙ wrong))
first_bad (line ∷ lines) others (first ∷ before) more bad column c e good fine wrong next =
    let rest : lines ++ others ≡ before ++ bad ∷ more = cc in
    let below = first_bad lines others before more bad column c rest good.1 fine.1 wrong next in
    (ap (λ (k : ℕ). suc k) below.0, below.1)

-- a wrong line does not stand among good ones
not_inside : (lines others before more : List (List ℕ)) (column : ℕ) → lines ++ others ≡ before ++ more → length lines < length before → AllLinesGood before → WrongNext others column → ⊥
not_inside [] others [] more column e short good next = absurd (omega arith)
not_inside [] [] (first ∷ before) more column e short good next = next
not_inside [] (line ∷ others) (first ∷ before) more column e short good next =
    let same : line ≡ first = cc in
    good.0 column (ap script_line (sym same) ∙ next)
not_inside (line ∷ lines) others [] more column e short good next = absurd (omega arith)
not_inside (line ∷ lines) others (first ∷ before) more column e short good next =
    let rest : lines ++ others ≡ before ++ more = cc in
    not_inside lines others before more column rest (omega arith) good.1 next

others_good : (lines others : List (List ℕ)) → AllLinesGood (lines ++ others) → AllLinesGood others
others_good [] others good = good
others_good (line ∷ lines) others good = others_good lines others good.1

not_bad : (others : List (List ℕ)) (column : ℕ) → AllLinesGood others → WrongNext others column → ⊥
not_bad [] column good next = next
not_bad (line ∷ others) column good next = good.0 column next

some_length : (lines : List (List ℕ)) → IsNonEmpty lines → 0 < length lines
some_length [] some = absurd some
some_length (line ∷ lines) some = omega arith

-- a list of which both parts are empty
both_empty : (a b : Fails) → a ++ b ≡ [] → (a ≡ []) × (b ≡ [])
both_empty [] b e = (refl, e)
both_empty (f ∷ a) b e = absurd (cc)

both_true : (a b : Bool) → a ≡ true → b ≡ true → ◌≡◌ {A = ℕ} (cond (a && b) 1 0) 1
both_true true true p q = refl
both_true true false p q = absurd (cc)
both_true false b p q = absurd (cc)

-- a disk that is named is named at least once
named_once : (site disk : ℕ) (fails : Fails) → 0 < times ((site, disk) ∷ fails) site disk
named_once site disk fails =
    omega (
      arith,
      sum_by-cons (λ (f : ℕ × ℕ). cond ((f.0 == site) && (f.1 == disk)) 1 0) (site, disk) fails,
      both_true (site == site) (disk == disk) (eq-eqb site site refl) (eq-eqb disk disk refl),
    )

-- where no count rose, no call failed
pub still_none : (fails : Fails) (old new : ℕ → ℕ → ℕ) → RoseAll fails old new → AreStill old new → fails ≡ []
still_none [] old new rose still = refl
still_none (f ∷ fails) old new rose still =
    let same = still.each f.0 f.1 in
    absurd (omega (arith, rose.each f.0 f.1, same.same, same.below, named_once f.0 f.1 fails))

not_risen : (before now : ℕ) → IsStillCount before now → StreamRose before now → ⊥
not_risen before now still rose = omega (arith, still.same, still.below, rose.rose)

module _ (told : Type 0) (files : Bool) where
  -- a line that was done is good
  said_good : (old new : Doubted) (r : Result (Option ScriptLine) ℕ) (fails : Fails) (text : List ℕ) → SaidStep told files old r fails text new → (column : ℕ) → r ≡ Err column → ⊥
  said_good old new (Ok l) fails text step column e = cc
  said_good old new (Err c) fails text step column e = step

  run_good : (old new : Doubted) (lines : List (List ℕ)) (failures : List Fails) (texts : List (List ℕ)) → RunsLines told files old lines failures texts new → AllLinesGood lines
  run_good old new [] [] [] run = tt
  run_good old new [] [] (text ∷ texts) run = tt
  run_good old new [] (fails ∷ failures) texts run = tt
  run_good old new (line ∷ lines) [] texts run = absurd run
  run_good old new (line ∷ lines) (fails ∷ failures) [] run = absurd run
  run_good old new (line ∷ lines) (fails ∷ failures) (text ∷ texts) run =
      (said_good old run.0 (script_line line) fails text run.1, run_good run.0 new lines failures texts run.2)

  -- where no call failed in all lines, none failed in each
  run_clean : (old new : Doubted) (lines : List (List ℕ)) (failures : List Fails) (texts : List (List ℕ)) → RunsLines told files old lines failures texts new → fails_of_lines failures ≡ []
      → RunsLines told files old lines (no_fails lines) texts new
  run_clean old new [] [] texts run none = run
  run_clean old new [] (fails ∷ failures) texts run none = absurd run
  run_clean old new (line ∷ lines) [] texts run none = absurd run
  run_clean old new (line ∷ lines) (fails ∷ failures) [] run none = absurd run
  run_clean old new (line ∷ lines) (fails ∷ failures) (text ∷ texts) run none =
      let both = both_empty fails (fails_of_lines failures) none in
      (run.0, subst (λ (f : Fails). BytesStep told files old line f text run.0) both.0 run.1, run_clean run.0 new lines failures texts run.2 both.1)

  module _ {Leaves : Doubted → Type 0} where
    -- the run ended at an open line
    stops_open : (input : List ℕ) (left w0 w1 : Option (List ℕ)) (f0 f1 : ℕ → ℕ → ℕ) (l c : ℕ) (o : RunOutcome told files Leaves 0 (sure empty_world) input (BadLine l c) left w0 w1 f0 f1)
        → OpenNext files o.behind.world o.part.others c → StopsOpen told files (BadLine l c) (split_lines input)
    stops_open input left w0 w1 f0 f1 l c o at = record {
      before = o.part.lines;
      next = at.next;
      others = at.rest;
      split = o.split ∙ ap (λ (ls : List (List ℕ)). o.part.lines ++ ls) at.split;
      failures = o.part.failures;
      texts = o.part.texts;
      behind = o.behind;
      run = o.run;
      words = at.words;
      says = at.says;
      ends = at.ends;
      is = let line : l ≡ length o.part.lines + 1 = omega (arith, o.ends.0) in ap (λ (k : ℕ). BadLine k c) line ∙ ap (BadLine (length o.part.lines + 1)) at.first;
    }

    -- a wrong line is answered as such, unless something cut the run off
    bad_is : (input : List ℕ) (status : Status) (left w0 w1 : Option (List ℕ)) (f0 f1 : ℕ → ℕ → ℕ) (line column : ℕ)
        → RunOutcome told files Leaves 0 (sure empty_world) input status left w0 w1 f0 f1 → FirstBad input line column → IsUncut status
        → (status ≡ BadLine line column) ⊎ StopsOpen told files status (split_lines input)
    bad_is input Done left w0 w1 f0 f1 line column o bad uncut =
        let good = run_good (sure empty_world) o.behind o.part.lines o.part.failures o.part.texts o.run in
        let e : o.part.lines ++ o.part.others ≡ bad.before ++ bad.bad ∷ bad.others = sym o.split ∙ bad.split in
        let below = ends_before o.part.lines o.part.others bad.before bad.others bad.bad column e good bad.wrong in
        let none : length o.part.others ≡ 0 = ap length o.ends.0 in
        absurd (omega (arith, below, none, ap length e, length-append o.part.lines o.part.others, length-append bad.before (bad.bad ∷ bad.others)))
    bad_is input (BadLine l c) left w0 w1 f0 f1 line column o bad uncut = by (wrong_or_open files o.behind.world o.part.others c o.ends.1)
      where
        by : WrongNext o.part.others c ⊎ OpenNext files o.behind.world o.part.others c → (BadLine l c ≡ BadLine line column) ⊎ StopsOpen told files (BadLine l c) (split_lines input)
        by (inl wrong) =
            let good = run_good (sure empty_world) o.behind o.part.lines o.part.failures o.part.texts o.run in
            let both = first_bad o.part.lines o.part.others bad.before bad.others bad.bad c column (sym o.split ∙ bad.split) good bad.good bad.wrong wrong in
            let at : l ≡ line = omega (arith, o.ends.0, both.0, bad.number) in
            inl (ap (λ (k : ℕ). BadLine k c) at ∙ ap (BadLine line) both.1)
        by (inr at) = inr (stops_open input left w0 w1 f0 f1 l c o at)
    bad_is input TooLong left w0 w1 f0 f1 line column o bad uncut =
        let good = run_good (sure empty_world) o.behind o.part.lines o.part.failures o.part.texts o.run in
        let below = ends_before o.part.lines o.part.others bad.before bad.others bad.bad column (sym o.split ∙ bad.split) good bad.wrong in
        absurd (omega (arith, below, o.ends.0, bad.few))
    bad_is input Usage left w0 w1 f0 f1 line column o bad uncut = absurd o.ends
    bad_is input ReadFault left w0 w1 f0 f1 line column o bad uncut = absurd uncut
    bad_is input WriteFault left w0 w1 f0 f1 line column o bad uncut = absurd uncut
    bad_is input OutOfMemory left w0 w1 f0 f1 line column o bad uncut = absurd uncut

    -- a good script is done, unless something cut the run off
    done_is : (input : List ℕ) (status : Status) (left w0 w1 : Option (List ℕ)) (f0 f1 : ℕ → ℕ → ℕ)
        → RunOutcome told files Leaves 0 (sure empty_world) input status left w0 w1 f0 f1 → IsGoodScript input → IsUncut status
        → (status ≡ Done) ⊎ StopsOpen told files status (split_lines input)
    done_is input Done left w0 w1 f0 f1 o script uncut = inl refl
    done_is input (BadLine l c) left w0 w1 f0 f1 o script uncut = by (wrong_or_open files o.behind.world o.part.others c o.ends.1)
      where
        by : WrongNext o.part.others c ⊎ OpenNext files o.behind.world o.part.others c → (BadLine l c ≡ Done) ⊎ StopsOpen told files (BadLine l c) (split_lines input)
        by (inl wrong) = absurd (not_bad o.part.others c (others_good o.part.lines o.part.others (subst AllLinesGood o.split script.good)) wrong)
        by (inr at) = inr (stops_open input left w0 w1 f0 f1 l c o at)
    done_is input TooLong left w0 w1 f0 f1 o script uncut =
        absurd (omega (arith, script.few, ap length o.split, length-append o.part.lines o.part.others, o.ends.0, some_length o.part.others o.ends.1))
    done_is input Usage left w0 w1 f0 f1 o script uncut = absurd o.ends
    done_is input ReadFault left w0 w1 f0 f1 o script uncut = absurd uncut
    done_is input WriteFault left w0 w1 f0 f1 o script uncut = absurd uncut
    done_is input OutOfMemory left w0 w1 f0 f1 o script uncut = absurd uncut

    -- a script with too many lines is answered as such, unless something cut the run off
    long_is : (input : List ℕ) (status : Status) (left w0 w1 : Option (List ℕ)) (f0 f1 : ℕ → ℕ → ℕ)
        → RunOutcome told files Leaves 0 (sure empty_world) input status left w0 w1 f0 f1 → IsTooLong input → IsUncut status
        → (status ≡ TooLong) ⊎ StopsOpen told files status (split_lines input)
    long_is input Done left w0 w1 f0 f1 o long uncut =
        let e : o.part.lines ++ o.part.others ≡ long.before ++ long.next ∷ long.others = sym o.split ∙ long.split in
        let none : length o.part.others ≡ 0 = ap length o.ends.0 in
        absurd (omega (arith, none, o.few, long.number, ap length e, length-append o.part.lines o.part.others, length-append long.before (long.next ∷ long.others)))
    long_is input (BadLine l c) left w0 w1 f0 f1 o long uncut = by (wrong_or_open files o.behind.world o.part.others c o.ends.1)
      where
        by : WrongNext o.part.others c ⊎ OpenNext files o.behind.world o.part.others c → (BadLine l c ≡ TooLong) ⊎ StopsOpen told files (BadLine l c) (split_lines input)
        by (inl wrong) =
            absurd (not_inside o.part.lines o.part.others long.before (long.next ∷ long.others) c (sym o.split ∙ long.split) (omega (arith, o.ends.2, long.number)) long.good wrong)
        by (inr at) = inr (stops_open input left w0 w1 f0 f1 l c o at)
    long_is input TooLong left w0 w1 f0 f1 o long uncut = inl refl
    long_is input Usage left w0 w1 f0 f1 o long uncut = absurd o.ends
    long_is input ReadFault left w0 w1 f0 f1 o long uncut = absurd uncut
    long_is input WriteFault left w0 w1 f0 f1 o long uncut = absurd uncut
    long_is input OutOfMemory left w0 w1 f0 f1 o long uncut = absurd uncut

module _ (told : Type 0) (files : Bool) {Leaves : Doubted → Type 0} where
  -- a run that was done, of which no call failed
  clean_done : (input : List ℕ) (left w0 w1 : Option (List ℕ)) (f0 f1 : ℕ → ℕ → ℕ) (o : RunOutcome told files Leaves 0 (sure empty_world) input Done left w0 w1 f0 f1)
      → AreStill f0 f1 → CleanRun told files Leaves (split_lines input) w0 w1
  clean_done input left w0 w1 f0 f1 o still =
      let all : split_lines input ≡ o.part.lines = o.split ∙ ap (λ (ls : List (List ℕ)). o.part.lines ++ ls) o.ends.0 ∙ append-nil o.part.lines in
      subst (λ (ls : List (List ℕ)). CleanRun told files Leaves ls w0 w1) (sym all)
      (record {
        texts = o.part.texts;
        world = o.behind;
        run = run_clean told files (sure empty_world) o.behind o.part.lines o.part.failures o.part.texts o.run (still_none (fails_of_lines o.part.failures) f0 f1 o.rose still);
        appends = subst (λ (t : List ℕ). Appends w0 w1 t) o.ends.2 o.appends;
        leaves = subst Leaves o.last o.leaves;
      })

  -- of a run that was not done no more is said than that it ended at an open line
  or_open : {w0 w1 : Option (List ℕ)} (status : Status) (lines : List (List ℕ)) → (status ≡ Done → ⊥) → (status ≡ Done) ⊎ StopsOpen told files status lines
      → IsClean told files Leaves status lines w0 w1
  or_open status lines not (inl done) = absurd (not done)
  or_open status lines not (inr stops) = inr (inr stops)

  clean_is : (input : List ℕ) (status : Status) (left w0 w1 : Option (List ℕ)) (f0 f1 : ℕ → ℕ → ℕ) (o : RunOutcome told files Leaves 0 (sure empty_world) input status left w0 w1 f0 f1)
      → IsGoodScript input → (status ≡ ReadFault → ⊥) → (status ≡ WriteFault → ⊥) → AreStill f0 f1 → IsClean told files Leaves status (split_lines input) w0 w1
  clean_is input Done left w0 w1 f0 f1 o script read write still = inl (refl, clean_done input left w0 w1 f0 f1 o still)
  clean_is input (BadLine l c) left w0 w1 f0 f1 o script read write still = or_open (BadLine l c) (split_lines input) (λ e. absurd (cc)) (done_is told files input (BadLine l c) left w0 w1 f0 f1 o script tt)
  clean_is input TooLong left w0 w1 f0 f1 o script read write still = or_open TooLong (split_lines input) (λ e. absurd (cc)) (done_is told files input TooLong left w0 w1 f0 f1 o script tt)
  clean_is input Usage left w0 w1 f0 f1 o script read write still = absurd o.ends
  clean_is input ReadFault left w0 w1 f0 f1 o script read write still = absurd (read refl)
  clean_is input WriteFault left w0 w1 f0 f1 o script read write still = absurd (write refl)
  clean_is input OutOfMemory left w0 w1 f0 f1 o script read write still = inr (inl refl)

  -- over the bytes that the source told
  over : (status : Status) (left now_left w0 w1 : Option (List ℕ)) (f0 f1 : ℕ → ℕ → ℕ) (input : List ℕ) → RunIs told files Leaves status left now_left w0 w1 f0 f1 → left ≡ Some input
      → RunOutcome told files Leaves 0 (sure empty_world) input status now_left w0 w1 f0 f1
  over status left now_left w0 w1 f0 f1 input run e =
      let same : run.input ≡ input = subst (λ (l : Option (List ℕ)). MayHave l run.input) e run.has in
      subst (λ (bytes : List ℕ). RunOutcome told files Leaves 0 (sure empty_world) bytes status now_left w0 w1 f0 f1) same run.outcome

  -- the run that the words ask for
  pub run_asked : (status : Status) (left now_left w0 w1 : Option (List ℕ)) (f0 f1 : ℕ → ℕ → ℕ) → RunIs told files Leaves status left now_left w0 w1 f0 f1
      → (wanted : Bool) → wanted ≡ files → RunIs told wanted Leaves status left now_left w0 w1 f0 f1
  run_asked status left now_left w0 w1 f0 f1 run wanted same = subst (λ (b : Bool). RunIs told b Leaves status left now_left w0 w1 f0 f1) (sym same) run

  pub run_complete : (status : Status) (left now_left w0 w1 : Option (List ℕ)) (f0 f1 : ℕ → ℕ → ℕ) → RunIs told files Leaves status left now_left w0 w1 f0 f1
      → (wanted : Bool) → wanted ≡ files → (input : List ℕ) → left ≡ Some input → IsGoodScript input → IsUncut status
      → (status ≡ Done) ⊎ StopsOpen told wanted status (split_lines input)
  run_complete status left now_left w0 w1 f0 f1 run wanted same input e script uncut =
      let o = over status left now_left w0 w1 f0 f1 input run e in
      subst (λ (f : Bool). (status ≡ Done) ⊎ StopsOpen told f status (split_lines input)) (sym same) (done_is told files input status now_left w0 w1 f0 f1 o script uncut)

  pub run_bad : (status : Status) (left now_left w0 w1 : Option (List ℕ)) (f0 f1 : ℕ → ℕ → ℕ) → RunIs told files Leaves status left now_left w0 w1 f0 f1
      → (wanted : Bool) → wanted ≡ files → (input : List ℕ) → left ≡ Some input → (line column : ℕ) → FirstBad input line column → IsUncut status
      → (status ≡ BadLine line column) ⊎ StopsOpen told wanted status (split_lines input)
  run_bad status left now_left w0 w1 f0 f1 run wanted same input e line column bad uncut =
      let o = over status left now_left w0 w1 f0 f1 input run e in
      subst (λ (f : Bool). (status ≡ BadLine line column) ⊎ StopsOpen told f status (split_lines input)) (sym same)
      (bad_is told files input status now_left w0 w1 f0 f1 line column o bad uncut)

  pub run_long : (status : Status) (left now_left w0 w1 : Option (List ℕ)) (f0 f1 : ℕ → ℕ → ℕ) → RunIs told files Leaves status left now_left w0 w1 f0 f1
      → (wanted : Bool) → wanted ≡ files → (input : List ℕ) → left ≡ Some input → IsTooLong input → IsUncut status
      → (status ≡ TooLong) ⊎ StopsOpen told wanted status (split_lines input)
  run_long status left now_left w0 w1 f0 f1 run wanted same input e long uncut =
      let o = over status left now_left w0 w1 f0 f1 input run e in
      subst (λ (f : Bool). (status ≡ TooLong) ⊎ StopsOpen told f status (split_lines input)) (sym same) (long_is told files input status now_left w0 w1 f0 f1 o long uncut)

  pub run_clean_is : (status : Status) (left now_left w0 w1 : Option (List ℕ)) (f0 f1 : ℕ → ℕ → ℕ) → RunIs told files Leaves status left now_left w0 w1 f0 f1
      → (wanted : Bool) → wanted ≡ files → (r0 r1 s0 s1 : ℕ) → (status ≡ ReadFault → StreamRose r0 r1) → (status ≡ WriteFault → StreamRose s0 s1)
      → (input : List ℕ) → left ≡ Some input → IsGoodScript input → IsStillCount r0 r1 → IsStillCount s0 s1 → AreStill f0 f1 → IsClean told wanted Leaves status (split_lines input) w0 w1
  run_clean_is status left now_left w0 w1 f0 f1 run wanted same r0 r1 s0 s1 reads writes input e script read write still =
      let o = over status left now_left w0 w1 f0 f1 input run e in
      subst (λ (f : Bool). IsClean told f Leaves status (split_lines input) w0 w1) (sym same)
      (clean_is input status now_left w0 w1 f0 f1 o script (λ at. not_risen r0 r1 read (reads at)) (λ at. not_risen s0 s1 write (writes at)) still)

-- the words ask for one thing
pub asked_is : (r wanted : Option Bool) (f t files : Bool) → r ≡ Some f → f ≡ t → r ≡ wanted → wanted ≡ Some files → files ≡ t
asked_is r wanted f t files a b c d = cc
