-- The session of a site over a group.
use Rattle.std.proofs.Common.{◌∙◌}
use Rattle.vx_diskset.proofs.OverAsked.{over_session}
use Rattle.vx_diskset.proofs.disk_set.DiskSet.session.Goals as goal

pub returns-in-Over-clause-is : goal.returns-in-Over-clause-is
returns-in-Over-clause-is g c = λ beside n stands up apart. c.session-in-Over.ensures.is ∙ over_session beside n c.args.self.now c.in-Over.over c.in-Over.is stands up
