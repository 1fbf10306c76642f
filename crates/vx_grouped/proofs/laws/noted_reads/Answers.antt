-- `noted_reads`: its result.
use Rattle.vx_grouped.proofs.NotedLemmas.{noted_is}
use Rattle.vx_grouped.proofs.laws.noted_reads.Goals as goal

pub returns : goal.returns
returns c = noted_is c.args.config.now c.encode_into.ensures.has
