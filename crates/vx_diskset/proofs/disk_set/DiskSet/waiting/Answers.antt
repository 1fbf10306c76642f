-- How many updates wait at a site over a group.
use Rattle.std.proofs.Common.{◌∙◌}
use Rattle.vx_diskset.proofs.OverAsked.{over_waiting}
use Rattle.vx_diskset.proofs.disk_set.DiskSet.waiting.Goals as goal

pub returns-in-Over : goal.returns-in-Over
returns-in-Over g c = λ beside n stands up running. c.waiting.ensures ∙ over_waiting beside n c.args.self.now c.in-Over.over c.in-Over.is stands up running
