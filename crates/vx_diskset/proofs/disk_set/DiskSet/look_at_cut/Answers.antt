-- `look_at_cut`: what it says, and leaves of the disks of the site.
use Rattle.std.proofs.Common.{subst, sym}
use Rattle.vx_grouped.specs.GroupSites.{UpNoted}
use Rattle.vx_diskset.specs.Recovers.{LooksAt}
use Rattle.vx_diskset.proofs.GroupCalling.{at_sites}
use Rattle.vx_diskset.proofs.OverRisen.{over_failing, over_later}
use Rattle.vx_diskset.proofs.GroupRising.{rise_failing, rise_later}
use Rattle.vx_grouped.specs.SiteMaps.{StaysMapped}
use Rattle.vx_diskset.specs.GroupCalls.{OnSites}
use Rattle.vx_diskset.specs.OverRises.{LooksOver}
use Rattle.vx_diskset.proofs.OverLooks.{looks_rest}
use Rattle.vx_diskset.proofs.disk_set.DiskSet.look_at_cut.Goals as goal

pub returns-in-OfGroup-clause-looks : goal.returns-in-OfGroup-clause-looks
returns-in-OfGroup-clause-looks g c = λ n note up.
    subst (λ x. LooksAt n note c.args.cut x c.stand_up.result.0 c.stand_up.result.1) (sym c.in-OfGroup.is)
    (c.stand_up.ensures.rises n note (at_sites (UpNoted n note) (UpNoted n note c.in-OfGroup.group.site) c.args.self c.in-OfGroup.group c.in-OfGroup.is (λ it. it) up))

pub returns-in-OfGroup-clause-failing : goal.returns-in-OfGroup-clause-failing
returns-in-OfGroup-clause-failing g c = rise_failing c.args.self c.stand_up.result.0 c.in-OfGroup.group c.in-OfGroup.is c.stand_up.ensures.since c.stand_up.ensures.told

pub returns-in-OfGroup-clause-later : goal.returns-in-OfGroup-clause-later
returns-in-OfGroup-clause-later g c = rise_later c.args.self c.stand_up.result.0 c.in-OfGroup.group c.in-OfGroup.is c.stand_up.ensures.since c.stand_up.ensures.told

pub returns-in-OfGroup-clause-maps : goal.returns-in-OfGroup-clause-maps
returns-in-OfGroup-clause-maps g c = λ n note up.
    subst (λ x. OnSites (λ o e. StaysMapped o e) x c.stand_up.result.0) (sym c.in-OfGroup.is)
    (c.stand_up.ensures.maps n note (at_sites (UpNoted n note) (UpNoted n note c.in-OfGroup.group.site) c.args.self c.in-OfGroup.group c.in-OfGroup.is (λ it. it) up))

pub returns-in-Over-clause-looks : goal.returns-in-Over-clause-looks
returns-in-Over-clause-looks g c = λ n note up. subst (λ x. LooksAt n note c.args.cut x c.stand_over.result.0 c.stand_over.result.1) (sym c.in-Over.is) tt

pub returns-in-Over-clause-failing : goal.returns-in-Over-clause-failing
returns-in-Over-clause-failing g c = over_failing c.args.self c.stand_over.result.0 c.in-Over.over c.in-Over.is c.stand_over.ensures.since

pub returns-in-Over-clause-later : goal.returns-in-Over-clause-later
returns-in-Over-clause-later g c = over_later c.args.self c.stand_over.result.0 c.in-Over.over c.in-Over.is c.stand_over.ensures.since c.stand_over.ensures.told

pub returns-in-Over-clause-maps : goal.returns-in-Over-clause-maps
returns-in-Over-clause-maps g c = λ n note up. subst (λ x. OnSites (λ o e. StaysMapped o e) x c.stand_over.result.0) (sym c.in-Over.is) tt

pub returns-in-OfGroup-clause-stands : goal.returns-in-OfGroup-clause-stands
returns-in-OfGroup-clause-stands g c = subst (λ x. LooksOver c.args.cut x c.stand_up.result.0 c.stand_up.result.1) (sym c.in-OfGroup.is) tt

pub returns-in-Over-clause-stands : goal.returns-in-Over-clause-stands
returns-in-Over-clause-stands g c = subst (λ x. LooksOver c.args.cut x c.stand_over.result.0 c.stand_over.result.1) (sym c.in-Over.is) c.stand_over.ensures.stands

pub returns-in_default-clause-stands : goal.returns-in_default-clause-stands
returns-in_default-clause-stands g c = looks_rest c.args.cut c.args.self c.args.self _ c.in_default.not-Over
