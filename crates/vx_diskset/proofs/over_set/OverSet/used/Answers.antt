-- The room that writes take in the log over a group of disks.
use Rattle.std.proofs.Common.{ap, subst, sym}
use Rattle.vx_diskset.specs.Aboves.{above_site}
use Rattle.vx_diskset.specs.OverAsks.{UsesOver}
use Rattle.vx_diskset.proofs.over_set.OverSet.used.Goals as goal

pub returns-in-Origin : goal.returns-in-Origin
returns-in-Origin g c = subst (λ a. UsesOver a c.args.above c.used_in.result) (sym (ap (λ s. above_site s) c.in-Origin.is))
    (record { low = c.used_in.ensures.low; past = c.used_in.ensures.past; is = c.used_in.ensures.is; some = c.used_in.ensures.some })
