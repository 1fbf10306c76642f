-- The last write that is durable at a site over a group.
use Rattle.std.proofs.Common.{◌∙◌}
use Rattle.vx_diskset.proofs.OverAsked.{over_last}
use Rattle.vx_diskset.proofs.disk_set.DiskSet.last.Goals as goal

pub returns-in-Over-clause-is : goal.returns-in-Over-clause-is
returns-in-Over-clause-is g c = λ beside n stands up running. c.last.ensures.is ∙ over_last beside n c.args.self.now c.in-Over.over c.in-Over.is stands up running
