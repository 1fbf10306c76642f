-- `detach_plex`: what it leaves of the disks of the site.
use Rattle.std.proofs.Common.{◌≡◌, ◌∙◌, subst, sym, ap}
use Rattle.vx_grouped.specs.GroupSites.{UpNoted, site_disks}
use Rattle.vx_diskset.specs.Aboves.{site_in}
use Rattle.vx_diskset.specs.Asked.{FuseGoesOn}
use Rattle.vx_diskset.specs.GroupCalls.{AtPlain, CalledOn, OnSites, cut_in}
use Rattle.vx_diskset.specs.GroupSets.{cut_value}
use Rattle.vx_diskset.specs.OverPlains.{OnOver, DetsBelow}
use Rattle.vx_diskset.specs.declared.disk_set.DiskSet.TheVariants.{OfGroup, Over}
use Rattle.vx_model.specs.declared.no.No.TheVariants.{Role}
use Rattle.vx_diskset.proofs.CallsBelow.{det_below_settled}
use Rattle.vx_diskset.proofs.OverCalling.{at_overs, others_over}
use Rattle.vx_diskset.proofs.OverMaking.{fuse_rest}
use Rattle.vx_diskset.proofs.OverPlain.{over_rest}
use Rattle.vx_diskset.proofs.OverRisen.{over_failing, over_fuse, over_later}
use Rattle.vx_diskset.proofs.GroupCalling.{at_plain, at_sites, called_rest, group_failing, group_fuse, group_later, on_sites, det_settled, others_on, on_rest, plain_none, rises_called}
use Rattle.vx_grouped.specs.SiteEnds.{DetCalled, refuses_det}
use Rattle.std.specs.Prelude.{Err, Some}
use Rattle.vx_model.specs.declared.errors.Stop.TheVariants.{No as Refused}
use Rattle.vx_grouped.specs.SiteMaps.{DetMapped}
use Rattle.vx_diskset.proofs.disk_set.DiskSet.detach_plex.Goals as goal

pub returns-in-OfGroup-clause-called : goal.returns-in-OfGroup-clause-called
returns-in-OfGroup-clause-called g c = λ n note. on_sites (UpNoted n note) (λ o e. DetCalled n note c.args.volume c.args.plex o e c.det.result) c.args.self.now c.in-OfGroup.group (record c.in-OfGroup.group { site = c.det.new.self }) c.in-OfGroup.is (c.det.ensures.called n note)

pub returns-in_default-clause-called : goal.returns-in_default-clause-called
returns-in_default-clause-called g c = λ n note. on_rest (UpNoted n note) (λ o e. DetCalled n note c.args.volume c.args.plex o e (Err (Refused Role))) c.args.self.now c.in_default.not-OfGroup

pub returns-in-OfGroup-clause-fuse : goal.returns-in-OfGroup-clause-fuse
returns-in-OfGroup-clause-fuse g c = λ n note.
    let is_rack = (g.met.R.Rack g.world.𝓛 g.world.𝓜 g.world.𝓡 ((λ s x. x), (λ x. x), (λ x. x), λ x. x)).rack in
    at_sites (UpNoted n note) (FuseGoesOn c.args.self.now (OfGroup (record c.in-OfGroup.group { site = c.det.new.self }))) c.args.self.now c.in-OfGroup.group c.in-OfGroup.is (λ it. group_fuse c.args.self.now c.in-OfGroup.group (record c.in-OfGroup.group { site = c.det.new.self }) c.in-OfGroup.is c.det.ensures.since (det_settled is_rack n note c.args.volume c.args.plex c.in-OfGroup.group.site c.det.new.self c.det.result (c.det.ensures.called n note it)))

pub returns-in_default-clause-fuse : goal.returns-in_default-clause-fuse
returns-in_default-clause-fuse g c = λ n note up. fuse_rest c.args.self.now

pub returns-in-OfGroup-clause-failing : goal.returns-in-OfGroup-clause-failing
returns-in-OfGroup-clause-failing g c = group_failing c.args.self.now c.in-OfGroup.group (record c.in-OfGroup.group { site = c.det.new.self }) c.in-OfGroup.is c.det.ensures.since

pub returns-in-OfGroup-clause-later : goal.returns-in-OfGroup-clause-later
returns-in-OfGroup-clause-later g c = group_later c.args.self.now c.in-OfGroup.group (record c.in-OfGroup.group { site = c.det.new.self }) c.in-OfGroup.is c.det.ensures.since c.det.ensures.told

pub returns-in-OfGroup-clause-since : goal.returns-in-OfGroup-clause-since
returns-in-OfGroup-clause-since g c = subst (λ x. CalledOn x (OfGroup (record c.in-OfGroup.group { site = c.det.new.self }))) (sym c.in-OfGroup.is) c.det.ensures.since

pub returns-in_default-clause-since : goal.returns-in_default-clause-since
returns-in_default-clause-since g c = called_rest c.args.self.now

pub returns-in-OfGroup-clause-refused : goal.returns-in-OfGroup-clause-refused
returns-in-OfGroup-clause-refused g c = λ n note no up is.
    at_sites (UpNoted n note) (c.det.result ≡ Err (Refused no)) c.args.self.now c.in-OfGroup.group c.in-OfGroup.is
    (λ it. at_plain (λ o. refuses_det o c.args.volume c.args.plex ≡ Some no) (c.det.result ≡ Err (Refused no)) c.args.self.now c.in-OfGroup.group c.in-OfGroup.is (λ at. c.det.ensures.refused n note no it at) is) up

pub returns-in_default-clause-refused : goal.returns-in_default-clause-refused
returns-in_default-clause-refused g c = λ n note no up is. plain_none (λ o. refuses_det o c.args.volume c.args.plex ≡ Some no) _ c.args.self.now c.in_default.not-OfGroup is

pub returns-in-OfGroup-clause-others : goal.returns-in-OfGroup-clause-others
returns-in-OfGroup-clause-others g c = others_on c.det.result c.args.self.now c.in-OfGroup.group (record c.in-OfGroup.group { site = c.det.new.self }) c.in-OfGroup.is c.args.volume c.args.plex c.det.ensures.others

pub returns-in-OfGroup-clause-cut : goal.returns-in-OfGroup-clause-cut
returns-in-OfGroup-clause-cut g c = sym (ap (λ x. cut_in x) c.in-OfGroup.is)

pub returns-in-OfGroup-clause-maps : goal.returns-in-OfGroup-clause-maps
returns-in-OfGroup-clause-maps g c = λ n note. on_sites (UpNoted n note) (λ o e. DetMapped c.args.volume c.args.plex o e c.det.result) c.args.self.now c.in-OfGroup.group (record c.in-OfGroup.group { site = c.det.new.self }) c.in-OfGroup.is (c.det.ensures.maps n note)

pub returns-in_default-clause-maps : goal.returns-in_default-clause-maps
returns-in_default-clause-maps g c = λ n note. on_rest (UpNoted n note) (λ o e. DetMapped c.args.volume c.args.plex o e (Err (Refused Role))) c.args.self.now c.in_default.not-OfGroup

pub returns-in-Over-clause-called : goal.returns-in-Over-clause-called
returns-in-Over-clause-called g c = λ n note up. subst (λ x. OnSites (λ o e. DetCalled n note c.args.volume c.args.plex o e c.det-in-Over.result) x (Over c.det-in-Over.new.self)) (sym c.in-Over.is) tt

pub returns-in-Over-clause-maps : goal.returns-in-Over-clause-maps
returns-in-Over-clause-maps g c = λ n note up. subst (λ x. OnSites (λ o e. DetMapped c.args.volume c.args.plex o e c.det-in-Over.result) x (Over c.det-in-Over.new.self)) (sym c.in-Over.is) tt

pub returns-in-Over-clause-refused : goal.returns-in-Over-clause-refused
returns-in-Over-clause-refused g c = λ n note no up is. absurd (subst (λ x. AtPlain (λ o. refuses_det o c.args.volume c.args.plex ≡ Some no) x) c.in-Over.is is)

pub returns-in-Over-clause-others : goal.returns-in-Over-clause-others
returns-in-Over-clause-others g c = others_over c.det-in-Over.result c.args.self.now c.in-Over.over c.det-in-Over.new.self c.in-Over.is c.args.volume c.args.plex

pub returns-in-Over-clause-over : goal.returns-in-Over-clause-over
returns-in-Over-clause-over g c = subst (λ x. OnOver (DetsBelow c.args.volume c.args.plex c.det-in-Over.result) x (Over c.det-in-Over.new.self)) (sym c.in-Over.is) c.det-in-Over.ensures.dets

pub returns-in-OfGroup-clause-over : goal.returns-in-OfGroup-clause-over
returns-in-OfGroup-clause-over g c = subst (λ x. OnOver (DetsBelow c.args.volume c.args.plex c.det.result) x (OfGroup (record c.in-OfGroup.group { site = c.det.new.self }))) (sym c.in-OfGroup.is) tt

pub returns-in_default-clause-over : goal.returns-in_default-clause-over
returns-in_default-clause-over g c = over_rest (DetsBelow c.args.volume c.args.plex (Err (Refused Role))) c.args.self.now c.in_default.not-Over

pub returns-in-Over-clause-cut : goal.returns-in-Over-clause-cut
returns-in-Over-clause-cut g c = ap (λ x. cut_value x) c.det-in-Over.ensures.dets.cut ∙ sym (ap (λ x. cut_in x) c.in-Over.is)

pub returns-in-Over-clause-fuse : goal.returns-in-Over-clause-fuse
returns-in-Over-clause-fuse g c = λ n note up.
    let is_rack = (g.met.R.Rack g.world.𝓛 g.world.𝓜 g.world.𝓡 ((λ s x. x), (λ x. x), (λ x. x), λ x. x)).rack in
    at_overs (UpNoted n note) (FuseGoesOn c.args.self.now (Over c.det-in-Over.new.self)) c.args.self.now c.in-Over.over c.in-Over.is
    (λ it. over_fuse c.args.self.now (Over c.det-in-Over.new.self) c.in-Over.over c.in-Over.is (rises_called (site_disks (site_in c.in-Over.over)) (site_disks (site_in c.det-in-Over.new.self)) c.det-in-Over.ensures.since)
    (det_below_settled is_rack n note c.args.volume c.args.plex (site_in c.in-Over.over) (site_in c.det-in-Over.new.self) c.det-in-Over.result (c.det-in-Over.ensures.dets.called n note it))) up

pub returns-in-Over-clause-failing : goal.returns-in-Over-clause-failing
returns-in-Over-clause-failing g c = over_failing c.args.self.now (Over c.det-in-Over.new.self) c.in-Over.over c.in-Over.is (rises_called (site_disks (site_in c.in-Over.over)) (site_disks (site_in c.det-in-Over.new.self)) c.det-in-Over.ensures.since)

pub returns-in-Over-clause-later : goal.returns-in-Over-clause-later
returns-in-Over-clause-later g c = over_later c.args.self.now (Over c.det-in-Over.new.self) c.in-Over.over c.in-Over.is (rises_called (site_disks (site_in c.in-Over.over)) (site_disks (site_in c.det-in-Over.new.self)) c.det-in-Over.ensures.since) c.det-in-Over.ensures.told

pub returns-in-Over-clause-since : goal.returns-in-Over-clause-since
returns-in-Over-clause-since g c = subst (λ x. CalledOn x (Over c.det-in-Over.new.self)) (sym c.in-Over.is) c.det-in-Over.ensures.since

pub returns-in-Over-clause-off : goal.returns-in-Over-clause-off
returns-in-Over-clause-off g c = c.det-in-Over.ensures.off
