-- A link by the log needs the blocks of the numbers above the one that it has stored.
use Rattle.vx_link_lines.proofs.HeardWorld.{needs_some}
use Rattle.vx_link_lines.proofs.hearing.needed.Goals as goal

pub returns-then-needs_log : goal.returns-then-needs_log
returns-then-needs_log g c = record {
  is = λ beside n s l stands up running plain is.
      needs_some n s l c.args.link.now is plain c.used.result c.needs_log.result c.needs_log.ensures c.if-needs_log.true (c.used.ensures.is beside n stands up running);
}
