-- The loop of `write_all` over `k`: what stays true.
use Rattle.vx_burst_threads.proofs.Making.{Loop}
use Rattle.vx_burst_threads.proofs.writer.Writer.write_all.Given as goal

abbrev pub invariant-loop-k : goal.invariant-loop-k
invariant-loop-k g l = Loop l.plan l.fn.self l.k l.self
