-- Steps of lines, and the counts of the disks.
use Rattle.std.proofs.Common.{◌≡◌, ◌∙◌, ℕ, ◌+◌, Bool, true, false, List, [], ◌∷◌, ◌++◌, ◌<◌, length, Option, Some, None, Result, Ok, Err, arith, ap, refl, sym}
use Rattle.std.proofs.lemmas.List.Sums.{sum_by-append}
use Rattle.vx_history.specs.Step.{step}
use Rattle.vx_history.specs.Doubts.{Doubted}
use Rattle.vx_script.specs.Grammar.{line_of}
use Rattle.vx_script.specs.declared.line.ScriptLine.{ScriptLine}
use Rattle.vx_script.proofs.GrammarLemmas.{line_of_long}
use Rattle.vx_events.specs.Fails.{Fails}
use Rattle.vx_events.specs.StepsOver.{refused_over}
use Rattle.vx_yard.specs.Lines.{script_line, only_built, if_built, is_built}
use Rattle.vx_yard.specs.Stands.{RoseAll, times}
use Rattle.vx_yard.specs.Steps.{SaidStep, BytesStep}
use Rattle.vx_cli.proofs.RvgTold.{short_told, step_told}
use Rattle.vx_cli.specs.Ends.{LastWorld, PartOfLine, PartOfNext}
use Rattle.vx_cli.specs.declared.status.Status.{Status}
use Rattle.vx_cli.specs.declared.status.Status.TheVariants.{OutOfMemory}

-- a line of more than 4,096 bytes is wrong behind them
pub script_line_long : (line : List ℕ) → 4096 < length line → script_line line ≡ Err 4097
unfolding script_line
script_line_long line long = ap only_built (line_of_long line long)

-- how often a disk is named in two lists
pub times_append : (a b : Fails) (s d : ℕ) → times (a ++ b) s d ≡ times a s d + times b s d
times_append a b s d = sum_by-append _ a b

pub rose_none : (x : ℕ → ℕ → ℕ) → RoseAll [] x x
rose_none x = record { each = λ s d. omega arith }

pub rose_more : (a b : Fails) (x y z : ℕ → ℕ → ℕ) → RoseAll a x y → RoseAll b y z → RoseAll (a ++ b) x z
rose_more a b x y z p q = record { each = λ s d. omega (arith, p.each s d, q.each s d, times_append a b s d) }

pub rose_same : (a : Fails) (x y u v : ℕ → ℕ → ℕ) → ((s d : ℕ) → u s d ≡ x s d) → ((s d : ℕ) → v s d ≡ y s d) → RoseAll a x y → RoseAll a u v
rose_same a x y u v e h p = record { each = λ s d. omega (arith, p.each s d, e s d, h s d) }

-- what holds where contents are told holds where even more is told
module _ {T U : Type 0} (f : U → T) where
  pub said_told : (files : Bool) (d : Doubted) (r : Result (Option ScriptLine) ℕ) (fails : Fails) (text : List ℕ) (new : Doubted) → SaidStep T files d r fails text new → SaidStep U files d r fails text new
  said_told files d (Ok None) fails text new x = x
  said_told files d (Ok (Some line)) fails text new x =
      record { said = x.said; step = step_told f (refused_over d.world files line) d line fails x.said new x.step; is = x.is }
  said_told files d (Err column) fails text new x = x

  pub line_told : (files : Bool) (d : Doubted) (line : List ℕ) (fails : Fails) (text : List ℕ) (new : Doubted) → BytesStep T files d line fails text new → BytesStep U files d line fails text new
  line_told files d line fails text new x = said_told files d (script_line line) fails text new x

  part_told : (r : Result (Option ScriptLine) ℕ) (d last : Doubted) → PartOfLine T r d last → PartOfLine U r d last
  part_told (Ok (Some words)) d last x = short_told f d words last x
  part_told (Ok None) d last x = x
  part_told (Err column) d last x = x

  next_told : (others : List (List ℕ)) (d last : Doubted) → PartOfNext T others d last → PartOfNext U others d last
  next_told [] d last x = x
  next_told (line ∷ lines) d last x = part_told (script_line line) d last x

  pub last_told : (status : Status) (others : List (List ℕ)) (d last : Doubted) → LastWorld T status others d last → LastWorld U status others d last
  last_told OutOfMemory others d last x = next_told others d last x
  last_told other others d last x = x

-- ---- a line that is done is of a kind that is built

built_if : (b : Bool) (line words : ScriptLine) → is_built line ≡ b → if_built b line ≡ Ok (Some words) → is_built words ≡ true
built_if true line words is e = let same : line ≡ words = cc in ap is_built (sym same) ∙ is
built_if false line words is e = absurd (cc)

built_by : (r : Result (Option ScriptLine) ℕ) (words : ScriptLine) → only_built r ≡ Ok (Some words) → is_built words ≡ true
built_by (Err column) words e = absurd (cc)
built_by (Ok None) words e = absurd (cc)
built_by (Ok (Some line)) words e = built_if (is_built line) line words refl e

pub line_built : (bytes : List ℕ) (words : ScriptLine) → script_line bytes ≡ Ok (Some words) → is_built words ≡ true
unfolding script_line
line_built bytes words e = built_by (line_of bytes) words e
