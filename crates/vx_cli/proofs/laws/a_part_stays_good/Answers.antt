-- The clause is its theorem.
use Rattle.vx_cli.proofs.Sounds.{short_full_good}
use Rattle.vx_cli.proofs.laws.a_part_stays_good.Goals as goal

pub returns : goal.returns
returns c = λ d line new good calm short. short_full_good tt d line new good calm short
