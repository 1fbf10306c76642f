-- `attach_plex`: what it leaves of the disks of the site.
use Rattle.std.proofs.Common.{◌≡◌, ◌∙◌, subst, sym, ap}
use Rattle.vx_grouped.specs.GroupSites.{UpNoted, site_disks}
use Rattle.vx_diskset.specs.Aboves.{site_in}
use Rattle.vx_diskset.specs.Asked.{FuseGoesOn}
use Rattle.vx_diskset.specs.GroupCalls.{AtPlain, AtSite, CalledOn, OnSites, cut_in}
use Rattle.vx_diskset.specs.GroupSets.{cut_value}
use Rattle.vx_diskset.specs.OverPlains.{OnOver, AttsBelow}
use Rattle.vx_diskset.specs.declared.disk_set.DiskSet.TheVariants.{OfGroup, Over}
use Rattle.vx_model.specs.declared.no.No.TheVariants.{Role}
use Rattle.vx_diskset.proofs.CallsBelow.{att_below_settled}
use Rattle.vx_diskset.proofs.OverCalling.{at_overs, others_over}
use Rattle.vx_diskset.proofs.OverMaking.{fuse_rest}
use Rattle.vx_diskset.proofs.OverPlain.{over_rest}
use Rattle.vx_diskset.proofs.OverRisen.{over_failing, over_fuse, over_later}
use Rattle.vx_diskset.proofs.GroupCalling.{at_plain, at_sites, called_rest, group_failing, group_fuse, group_later, on_sites, att_settled, others_on, on_rest, plain_none, rises_called}
use Rattle.vx_grouped.specs.SiteEnds.{AttCalled, RegionsOf, is_plex_on, refuses_att}
use Rattle.std.specs.Prelude.{Err, None, Ok, Some, false, IfOk, IsTrue, OnOk}
use Rattle.vx_model.specs.declared.errors.Stop.TheVariants.{No as Refused}
use Rattle.vx_grouped.specs.SiteMaps.{AttMapped}
use Rattle.vx_diskset.proofs.disk_set.DiskSet.attach_plex.Goals as goal

pub returns-in-OfGroup-clause-called : goal.returns-in-OfGroup-clause-called
returns-in-OfGroup-clause-called g c = λ n note. on_sites (UpNoted n note) (λ o e. AttCalled n note c.args.volume c.args.plex o e c.att.result) c.args.self.now c.in-OfGroup.group (record c.in-OfGroup.group { site = c.att.new.self }) c.in-OfGroup.is (c.att.ensures.called n note)

pub returns-in_default-clause-called : goal.returns-in_default-clause-called
returns-in_default-clause-called g c = λ n note. on_rest (UpNoted n note) (λ o e. AttCalled n note c.args.volume c.args.plex o e (Err (Refused Role))) c.args.self.now c.in_default.not-OfGroup

pub returns-in-OfGroup-clause-fuse : goal.returns-in-OfGroup-clause-fuse
returns-in-OfGroup-clause-fuse g c = λ n note.
    let is_rack = (g.met.R.Rack g.world.𝓛 g.world.𝓜 g.world.𝓡 ((λ s x. x), (λ x. x), (λ x. x), λ x. x)).rack in
    at_sites (UpNoted n note) (FuseGoesOn c.args.self.now (OfGroup (record c.in-OfGroup.group { site = c.att.new.self }))) c.args.self.now c.in-OfGroup.group c.in-OfGroup.is (λ it. group_fuse c.args.self.now c.in-OfGroup.group (record c.in-OfGroup.group { site = c.att.new.self }) c.in-OfGroup.is c.att.ensures.since (att_settled is_rack n note c.args.volume c.args.plex c.in-OfGroup.group.site c.att.new.self c.att.result (c.att.ensures.called n note it)))

pub returns-in_default-clause-fuse : goal.returns-in_default-clause-fuse
returns-in_default-clause-fuse g c = λ n note up. fuse_rest c.args.self.now

pub returns-in-OfGroup-clause-failing : goal.returns-in-OfGroup-clause-failing
returns-in-OfGroup-clause-failing g c = group_failing c.args.self.now c.in-OfGroup.group (record c.in-OfGroup.group { site = c.att.new.self }) c.in-OfGroup.is c.att.ensures.since

pub returns-in-OfGroup-clause-later : goal.returns-in-OfGroup-clause-later
returns-in-OfGroup-clause-later g c = group_later c.args.self.now c.in-OfGroup.group (record c.in-OfGroup.group { site = c.att.new.self }) c.in-OfGroup.is c.att.ensures.since c.att.ensures.told

pub returns-in-OfGroup-clause-since : goal.returns-in-OfGroup-clause-since
returns-in-OfGroup-clause-since g c = subst (λ x. CalledOn x (OfGroup (record c.in-OfGroup.group { site = c.att.new.self }))) (sym c.in-OfGroup.is) c.att.ensures.since

pub returns-in_default-clause-since : goal.returns-in_default-clause-since
returns-in_default-clause-since g c = called_rest c.args.self.now

pub returns-in-OfGroup-clause-refused : goal.returns-in-OfGroup-clause-refused
returns-in-OfGroup-clause-refused g c = λ n note no up is.
    at_sites (UpNoted n note) (c.att.result ≡ Err (Refused no)) c.args.self.now c.in-OfGroup.group c.in-OfGroup.is
    (λ it. at_plain (λ o. refuses_att o c.args.volume c.args.plex ≡ Some no) (c.att.result ≡ Err (Refused no)) c.args.self.now c.in-OfGroup.group c.in-OfGroup.is (λ at. c.att.ensures.refused n note no it at) is) up

pub returns-in_default-clause-refused : goal.returns-in_default-clause-refused
returns-in_default-clause-refused g c = λ n note no up is. plain_none (λ o. refuses_att o c.args.volume c.args.plex ≡ Some no) _ c.args.self.now c.in_default.not-OfGroup is

pub returns-in-OfGroup-clause-others : goal.returns-in-OfGroup-clause-others
returns-in-OfGroup-clause-others g c = others_on c.att.result c.args.self.now c.in-OfGroup.group (record c.in-OfGroup.group { site = c.att.new.self }) c.in-OfGroup.is c.args.volume c.args.plex c.att.ensures.others

pub returns-in-OfGroup-clause-cut : goal.returns-in-OfGroup-clause-cut
returns-in-OfGroup-clause-cut g c = sym (ap (λ x. cut_in x) c.in-OfGroup.is)

pub returns-in-OfGroup-clause-already : goal.returns-in-OfGroup-clause-already
returns-in-OfGroup-clause-already g c = λ n note up none on.
    at_sites (UpNoted n note) (c.att.result ≡ Ok 0) c.args.self.now c.in-OfGroup.group c.in-OfGroup.is
    (λ it. at_plain (λ o. refuses_att o c.args.volume c.args.plex ≡ None) (c.att.result ≡ Ok 0) c.args.self.now c.in-OfGroup.group c.in-OfGroup.is
    (λ at. at_sites (λ o. IsTrue (is_plex_on o c.args.volume c.args.plex)) (c.att.result ≡ Ok 0) c.args.self.now c.in-OfGroup.group c.in-OfGroup.is (λ is. c.att.ensures.already n note it at is) on) none) up

pub returns-in_default-clause-already : goal.returns-in_default-clause-already
returns-in_default-clause-already g c = λ n note up none on. plain_none (λ o. refuses_att o c.args.volume c.args.plex ≡ None) _ c.args.self.now c.in_default.not-OfGroup none

pub returns-in-OfGroup-clause-count : goal.returns-in-OfGroup-clause-count
returns-in-OfGroup-clause-count g c = at_sites (λ o. is_plex_on o c.args.volume c.args.plex ≡ false) (IfOk c.att.result (λ k. AtSite (λ o. RegionsOf o c.args.volume k) c.args.self.now)) c.args.self.now c.in-OfGroup.group c.in-OfGroup.is
    (λ off. subst (λ x. IfOk c.att.result (λ k. AtSite (λ o. RegionsOf o c.args.volume k) x)) (sym c.in-OfGroup.is) (c.att.ensures.count off))

pub returns-in-OfGroup-clause-on : goal.returns-in-OfGroup-clause-on
returns-in-OfGroup-clause-on g c = at_sites (λ o. is_plex_on o c.args.volume c.args.plex ≡ false) (OnOk c.att.result (IsTrue (is_plex_on c.att.new.self c.args.volume c.args.plex))) c.args.self.now c.in-OfGroup.group c.in-OfGroup.is c.att.ensures.on

pub returns-in-OfGroup-clause-maps : goal.returns-in-OfGroup-clause-maps
returns-in-OfGroup-clause-maps g c = λ n note. on_sites (UpNoted n note) (λ o e. AttMapped c.args.volume c.args.plex o e c.att.result) c.args.self.now c.in-OfGroup.group (record c.in-OfGroup.group { site = c.att.new.self }) c.in-OfGroup.is (c.att.ensures.maps n note)

pub returns-in_default-clause-maps : goal.returns-in_default-clause-maps
returns-in_default-clause-maps g c = λ n note. on_rest (UpNoted n note) (λ o e. AttMapped c.args.volume c.args.plex o e (Err (Refused Role))) c.args.self.now c.in_default.not-OfGroup

pub returns-in-Over-clause-called : goal.returns-in-Over-clause-called
returns-in-Over-clause-called g c = λ n note up. subst (λ x. OnSites (λ o e. AttCalled n note c.args.volume c.args.plex o e c.att-in-Over.result) x (Over c.att-in-Over.new.self)) (sym c.in-Over.is) tt

pub returns-in-Over-clause-maps : goal.returns-in-Over-clause-maps
returns-in-Over-clause-maps g c = λ n note up. subst (λ x. OnSites (λ o e. AttMapped c.args.volume c.args.plex o e c.att-in-Over.result) x (Over c.att-in-Over.new.self)) (sym c.in-Over.is) tt

pub returns-in-Over-clause-refused : goal.returns-in-Over-clause-refused
returns-in-Over-clause-refused g c = λ n note no up is. absurd (subst (λ x. AtPlain (λ o. refuses_att o c.args.volume c.args.plex ≡ Some no) x) c.in-Over.is is)

pub returns-in-Over-clause-others : goal.returns-in-Over-clause-others
returns-in-Over-clause-others g c = others_over c.att-in-Over.result c.args.self.now c.in-Over.over c.att-in-Over.new.self c.in-Over.is c.args.volume c.args.plex

pub returns-in-Over-clause-over : goal.returns-in-Over-clause-over
returns-in-Over-clause-over g c = subst (λ x. OnOver (AttsBelow c.args.volume c.args.plex c.att-in-Over.result) x (Over c.att-in-Over.new.self)) (sym c.in-Over.is) c.att-in-Over.ensures.atts

pub returns-in-OfGroup-clause-over : goal.returns-in-OfGroup-clause-over
returns-in-OfGroup-clause-over g c = subst (λ x. OnOver (AttsBelow c.args.volume c.args.plex c.att.result) x (OfGroup (record c.in-OfGroup.group { site = c.att.new.self }))) (sym c.in-OfGroup.is) tt

pub returns-in_default-clause-over : goal.returns-in_default-clause-over
returns-in_default-clause-over g c = over_rest (AttsBelow c.args.volume c.args.plex (Err (Refused Role))) c.args.self.now c.in_default.not-Over

pub returns-in-Over-clause-cut : goal.returns-in-Over-clause-cut
returns-in-Over-clause-cut g c = ap (λ x. cut_value x) c.att-in-Over.ensures.atts.cut ∙ sym (ap (λ x. cut_in x) c.in-Over.is)

pub returns-in-Over-clause-fuse : goal.returns-in-Over-clause-fuse
returns-in-Over-clause-fuse g c = λ n note up.
    let is_rack = (g.met.R.Rack g.world.𝓛 g.world.𝓜 g.world.𝓡 ((λ s x. x), (λ x. x), (λ x. x), λ x. x)).rack in
    at_overs (UpNoted n note) (FuseGoesOn c.args.self.now (Over c.att-in-Over.new.self)) c.args.self.now c.in-Over.over c.in-Over.is
    (λ it. over_fuse c.args.self.now (Over c.att-in-Over.new.self) c.in-Over.over c.in-Over.is (rises_called (site_disks (site_in c.in-Over.over)) (site_disks (site_in c.att-in-Over.new.self)) c.att-in-Over.ensures.since)
    (att_below_settled is_rack n note c.args.volume c.args.plex (site_in c.in-Over.over) (site_in c.att-in-Over.new.self) c.att-in-Over.result (c.att-in-Over.ensures.atts.called n note it))) up

pub returns-in-Over-clause-failing : goal.returns-in-Over-clause-failing
returns-in-Over-clause-failing g c = over_failing c.args.self.now (Over c.att-in-Over.new.self) c.in-Over.over c.in-Over.is (rises_called (site_disks (site_in c.in-Over.over)) (site_disks (site_in c.att-in-Over.new.self)) c.att-in-Over.ensures.since)

pub returns-in-Over-clause-later : goal.returns-in-Over-clause-later
returns-in-Over-clause-later g c = over_later c.args.self.now (Over c.att-in-Over.new.self) c.in-Over.over c.in-Over.is (rises_called (site_disks (site_in c.in-Over.over)) (site_disks (site_in c.att-in-Over.new.self)) c.att-in-Over.ensures.since) c.att-in-Over.ensures.told

pub returns-in-Over-clause-since : goal.returns-in-Over-clause-since
returns-in-Over-clause-since g c = subst (λ x. CalledOn x (Over c.att-in-Over.new.self)) (sym c.in-Over.is) c.att-in-Over.ensures.since

pub returns-in-Over-clause-already : goal.returns-in-Over-clause-already
returns-in-Over-clause-already g c = λ n note up none on. absurd (subst (λ x. AtPlain (λ o. refuses_att o c.args.volume c.args.plex ≡ None) x) c.in-Over.is none)

pub returns-in-Over-clause-count : goal.returns-in-Over-clause-count
returns-in-Over-clause-count g c = at_overs (λ o. is_plex_on o c.args.volume c.args.plex ≡ false) (IfOk c.att-in-Over.result (λ k. AtSite (λ o. RegionsOf o c.args.volume k) c.args.self.now)) c.args.self.now c.in-Over.over c.in-Over.is
    (λ off. subst (λ x. IfOk c.att-in-Over.result (λ k. AtSite (λ o. RegionsOf o c.args.volume k) x)) (sym c.in-Over.is) (c.att-in-Over.ensures.atts.count off))

pub returns-in-Over-clause-on : goal.returns-in-Over-clause-on
returns-in-Over-clause-on g c = at_overs (λ o. is_plex_on o c.args.volume c.args.plex ≡ false) (OnOk c.att-in-Over.result (IsTrue (is_plex_on (site_in c.att-in-Over.new.self) c.args.volume c.args.plex))) c.args.self.now c.in-Over.over c.in-Over.is c.att-in-Over.ensures.atts.on
