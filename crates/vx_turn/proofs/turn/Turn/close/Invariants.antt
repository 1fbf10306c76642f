-- The loop of `close`: what stays true.
use Rattle.std.proofs.Common.{Some}
use Rattle.vx_turn.specs.Passing.{first_engine}
use Rattle.vx_turn.proofs.turn.Turn.close.Given as goal

abbrev pub ghosts-close_from : goal.ghosts-close_from
ghosts-close_from g a = record { first = Some (first_engine a.self) }
