-- `line_ends`: clauses ended, last, whole and cut.
use Rattle.vx_script.proofs.LineLemmas.{lines_of_line, lines_of_last, whole_lines_of_line, whole_lines_of_last}
use Rattle.vx_script.proofs.laws.line_ends.Goals as goal

pub returns-clause-ended : goal.returns-clause-ended
returns-clause-ended c = lines_of_line

pub returns-clause-last : goal.returns-clause-last
returns-clause-last c = lines_of_last

pub returns-clause-whole : goal.returns-clause-whole
returns-clause-whole c = whole_lines_of_line

pub returns-clause-cut : goal.returns-clause-cut
returns-clause-cut c = whole_lines_of_last
