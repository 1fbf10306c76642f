-- The loop of `work`: what stays true.
use Rattle.std.proofs.Common.{Some}
use Rattle.vx_turn.specs.Passing.{first_engine}
use Rattle.vx_turn.proofs.turn.Turn.work.Given as goal

abbrev pub ghosts-work_from : goal.ghosts-work_from
ghosts-work_from g a = record { first = Some (first_engine a.self.now) }
