-- The clause is its theorem.
use Rattle.std.proofs.Common.{◌≡◌, true}
use Rattle.vx_cli.proofs.LastLemmas.{last_is}
use Rattle.vx_cli.proofs.laws.no_line_is_done_in_part.Goals as goal

pub returns : goal.returns
returns c = λ told. last_is (told ≡ true)
