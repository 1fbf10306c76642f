-- The room that writes take in the log of a site.
use Rattle.vx_diskset.proofs.OverAsked.{needed_there, over_needed, over_used, used_there}
use Rattle.vx_diskset.proofs.disk_set.DiskSet.used.Goals as goal

pub returns-in-Up-clause-is : goal.returns-in-Up-clause-is
returns-in-Up-clause-is g c = λ beside n stands up running.
    used_there beside n c.args.self.now c.in-Up.rvg c.in-Up.is stands running c.args.above c.used_in.result
    (record { low = c.used_in.ensures.low; past = c.used_in.ensures.past; is = c.used_in.ensures.is; some = c.used_in.ensures.some })

pub returns-in-Up-clause-some : goal.returns-in-Up-clause-some
returns-in-Up-clause-some g c = λ beside n k l stands origin up apart running told there needing far.
    c.used_in.ensures.some (needed_there beside n c.args.self.now c.in-Up.rvg c.in-Up.is stands running told k c.args.above l there needing far)

pub returns-in-Over-clause-is : goal.returns-in-Over-clause-is
returns-in-Over-clause-is g c = λ beside n stands up running. over_used beside n c.args.self.now c.in-Over.over c.in-Over.is stands running c.args.above c.used.result c.used.ensures

pub returns-in-Over-clause-some : goal.returns-in-Over-clause-some
returns-in-Over-clause-some g c = λ beside n k l stands origin up apart running told there needing far.
    over_needed beside n c.args.self.now c.in-Over.over c.in-Over.is stands origin up running told k c.args.above l c.used.result there needing far c.used.ensures
