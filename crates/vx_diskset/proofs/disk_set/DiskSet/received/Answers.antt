-- How many writes a site over a group has received.
use Rattle.std.proofs.Common.{◌∙◌}
use Rattle.vx_diskset.proofs.OverAsked.{over_received}
use Rattle.vx_diskset.proofs.disk_set.DiskSet.received.Goals as goal

pub returns-in-Over : goal.returns-in-Over
returns-in-Over g c = λ beside n stands up running. c.received.ensures ∙ over_received beside n c.args.self.now c.in-Over.over c.in-Over.is stands up running
