-- The loop of `call`: what stays true.
use Rattle.std.proofs.Common.{Some}
use Rattle.vx_turn.specs.Passing.{first_engine}
use Rattle.vx_turn.proofs.turn.Turn.call.Given as goal

abbrev pub ghosts-call_from : goal.ghosts-call_from
ghosts-call_from g a = record { first = Some (first_engine a.self.now) }
