-- `wrong_place`: clauses long and wrong.
use Rattle.vx_script.proofs.ColumnLemmas.{column_exact}
use Rattle.vx_script.proofs.GrammarLemmas.{line_of_long}
use Rattle.vx_script.proofs.laws.wrong_place.Goals as goal

pub returns-clause-long : goal.returns-clause-long
returns-clause-long c = line_of_long

pub returns-clause-wrong : goal.returns-clause-wrong
returns-clause-wrong c = column_exact
