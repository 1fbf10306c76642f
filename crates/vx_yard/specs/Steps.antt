-- What the bytes of a line do to the world, in which sites may be in doubt, and the text that answers it.
use Rattle.std.specs.Prelude.{◌≡◌, ℕ, Bool, List, [], Option, Some, None, Result, Ok, Err}
use Rattle.vx_history.specs.Doubts.{Doubted}
use Rattle.vx_script.specs.declared.line.ScriptLine.{ScriptLine}
use Rattle.vx_events.specs.Fails.{Fails}
use Rattle.vx_events.specs.Sent.{sent_between}
use Rattle.vx_events.specs.declared.said.Said.{Said}
use Rattle.vx_yard.specs.Lines.{script_line}
use Rattle.vx_yard.specs.Replies.{text_of}
use Rattle.vx_events.specs.RvgSteps.{StepFull}

-- a line makes a step, and its reply is printed, with the numbers of the packets that it sent
pub record Prints (told : Type 0) (files : Bool) (d : Doubted) (line : ScriptLine) (fails : Fails) (text : List ℕ) (new : Doubted) : Type 0 where
  pub said : Said
  pub step : StepFull told files d line fails said new
  pub is : text ≡ text_of said (sent_between d.world new.world)

-- an empty line or a comment is passed over
abbrev pub SaidStep : Type 0 → Bool → Doubted → Result (Option ScriptLine) ℕ → Fails → List ℕ → Doubted → Type 0
SaidStep told files d (Ok None) fails text new = (fails ≡ []) × (text ≡ []) × (new ≡ d)
SaidStep told files d (Ok (Some line)) fails text new = Prints told files d line fails text new
SaidStep told files d (Err column) fails text new = ⊥

-- what the bytes of a line do to the world, with the failed calls in it, and the text that answers it
abbrev pub BytesStep : Type 0 → Bool → Doubted → List ℕ → Fails → List ℕ → Doubted → Type 0
BytesStep told files d bytes fails text new = SaidStep told files d (script_line bytes) fails text new
