-- `stand_up`: what is said of a group that came up.
use Rattle.std.proofs.Common.{subst}
use Rattle.vx_diskset.specs.Recovers.{LooksKept}
use Rattle.vx_diskset.proofs.GroupCalling.{rises_called}
use Rattle.vx_diskset.proofs.GroupRising.{rises_crash, rises_kept, rises_unread}
use Rattle.vx_grouped.specs.GroupSites.{site_disks}
use Rattle.vx_diskset.proofs.group_starts.stand_up.Goals as goal

pub returns-in-Ok-clause-rises : goal.returns-in-Ok-clause-rises
returns-in-Ok-clause-rises g c = λ n note up.
    rises_kept n note c.args.cut c.args.site c.look_kept.new.site c.in-Ok.kept
    (subst (λ r. LooksKept n note c.args.cut c.args.site c.look_kept.new.site r) c.in-Ok.is (c.look_kept.ensures.looks n note up))

pub returns-in-Ok-clause-since : goal.returns-in-Ok-clause-since
returns-in-Ok-clause-since g c = rises_called (site_disks c.args.site) (site_disks c.look_kept.new.site) c.look_kept.ensures.since

pub returns-in-Err-clause-rises : goal.returns-in-Err-clause-rises
returns-in-Err-clause-rises g c = λ n note up.
    rises_unread n note c.args.cut c.args.site c.look_kept.new.site c.crash.result 0xffff_ffff_ffff_ffff c.in-Err.no
    (subst (λ r. LooksKept n note c.args.cut c.args.site c.look_kept.new.site r) c.in-Err.is (c.look_kept.ensures.looks n note up))
    c.crash.ensures.crashed c.crash.ensures.stopped

pub returns-in-Err-clause-since : goal.returns-in-Err-clause-since
returns-in-Err-clause-since g c =
    rises_crash (site_disks c.args.site) 0xffff_ffff_ffff_ffff c.look_kept.new.site c.crash.result
    (rises_called (site_disks c.args.site) (site_disks c.look_kept.new.site) c.look_kept.ensures.since) c.crash.ensures.stopped

pub returns-in-Ok-clause-told : goal.returns-in-Ok-clause-told
returns-in-Ok-clause-told g c = c.look_kept.ensures.told

pub returns-in-Err-clause-told : goal.returns-in-Err-clause-told
returns-in-Err-clause-told g c = λ told. c.look_kept.ensures.told (c.crash.ensures.told told)

pub returns-in-Ok-clause-maps : goal.returns-in-Ok-clause-maps
returns-in-Ok-clause-maps g c = c.look_kept.ensures.maps

pub returns-in-Err-clause-maps : goal.returns-in-Err-clause-maps
returns-in-Err-clause-maps g c = λ n note up own it. c.crash.ensures.maps own (c.look_kept.ensures.maps n note up own it)
