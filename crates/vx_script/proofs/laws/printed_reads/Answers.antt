-- `printed_reads`: its result.
use Rattle.vx_script.proofs.GrammarLemmas.{printed_again}
use Rattle.vx_script.proofs.laws.printed_reads.Goals as goal

pub returns : goal.returns
returns c = printed_again
