-- `blocks_have_one_spelling`: clauses area, only_area and label.
use Rattle.vx_copyfmt.proofs.AreaLemmas.{header_of-is, header_of-only}
use Rattle.vx_copyfmt.proofs.LabelLemmas.{seen_in-is}
use Rattle.vx_copyfmt.proofs.laws.blocks_have_one_spelling.Goals as goal

pub returns-clause-area : goal.returns-clause-area
returns-clause-area c = header_of-is

pub returns-clause-only_area : goal.returns-clause-only_area
returns-clause-only_area c = header_of-only

pub returns-clause-label : goal.returns-clause-label
returns-clause-label c = seen_in-is
