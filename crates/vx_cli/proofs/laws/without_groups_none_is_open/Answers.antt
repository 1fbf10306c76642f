-- The clause is its theorem.
use Rattle.vx_cli.proofs.NoOpens.{none_open}
use Rattle.vx_cli.proofs.laws.without_groups_none_is_open.Goals as goal

pub returns : goal.returns
returns c = λ files status lines makes stops. none_open files status lines makes stops
