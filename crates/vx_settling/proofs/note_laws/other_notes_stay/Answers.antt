-- By the worlds that the events of the line lead through, and by what it notes.
use Rattle.std.specs.Prelude.{IsTrue}
use Rattle.vx_settling.proofs.OtherLines.{step_notes}
use Rattle.vx_settling.proofs.OtherShorts.{short_notes}
use Rattle.vx_settling.proofs.note_laws.other_notes_stay.Goals as goal

pub returns : goal.returns
returns c = record {
  ends = λ tells files d line fails said new i o good made has off step.
      step_notes i o d (record { good = good; made = made; has = has }) (IsTrue tells) fails said new files line off step;
  short = λ tells d line new i o good made has off short. short_notes i o d (record { good = good; made = made; has = has }) (IsTrue tells) new line off short;
}
