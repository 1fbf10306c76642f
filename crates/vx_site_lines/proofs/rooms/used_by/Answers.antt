-- The blocks that a link needs are those above its hold, which a told log has.
use Rattle.std.proofs.Common.{arith}
use Rattle.vx_site_lines.proofs.RiseNeeds.{holds_log, need_if}
use Rattle.vx_site_lines.proofs.rooms.used_by.Goals as goal

pub returns-then-needs_log-clause-is : goal.returns-then-needs_log-clause-is
returns-then-needs_log-clause-is g c = λ beside n stands up running.
    need_if n c.args.link.now c.needs_log.result c.used.result c.needs_log.ensures c.if-needs_log.true (c.used.ensures.is beside n stands up running)

pub returns-then-needs_log-clause-some : goal.returns-then-needs_log-clause-some
returns-then-needs_log-clause-some g c = λ beside n k stands origin up apart running told at.
    let holds = holds_log c.args.link.now c.needs_log.result c.needs_log.ensures c.if-needs_log.true in
    c.used.ensures.some beside n k c.args.link.now stands origin up apart running told at holds.0 (omega (arith, holds.1))
