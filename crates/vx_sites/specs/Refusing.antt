-- What the tests of an event come to in the program.
use Rattle.std.specs.Prelude.{◌≡◌, Option, None, Some}
use Rattle.vx_history.specs.World.{World}
use Rattle.vx_history.specs.Refusals.{Outcome, refused}
use Rattle.vx_model.specs.declared.no.No.{No}

-- the outcome, unless there is a refusal
abbrev pub unless_refused : Option No → World → Outcome → Outcome
unless_refused None w o = o
unless_refused (Some why) w o = refused w why

-- the tests refuse with this, or let through whatever follows them
abbrev pub Refuses : Option No → World → (Outcome → Outcome) → Type 0
Refuses why w tests = (o : Outcome) → unless_refused why w o ≡ tests o
