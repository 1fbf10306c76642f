-- `grammar`: clauses lines and quiet.
use Rattle.vx_script.proofs.GrammarLemmas.{line_of_exact, quiet_exact}
use Rattle.vx_script.proofs.laws.grammar.Goals as goal

pub returns-clause-lines : goal.returns-clause-lines
returns-clause-lines c = line_of_exact

pub returns-clause-quiet : goal.returns-clause-quiet
returns-clause-quiet c = quiet_exact
