-- `deport_group`: what it leaves of the disks of the site.
use Rattle.std.proofs.Common.{◌∙◌, ap, refl, subst, sym}
use Rattle.std.specs.Prelude.{Err}
use Rattle.vx_grouped.specs.GroupSites.{UpNoted, site_disks}
use Rattle.vx_grouped.specs.SiteEnds.{SiteDeported}
use Rattle.vx_diskset.specs.Asked.{FuseGoesOn}
use Rattle.vx_diskset.proofs.KeepsFailing.{failing_same}
use Rattle.vx_diskset.specs.Aboves.{site_in}
use Rattle.vx_diskset.specs.GroupCalls.{CalledOn, OnSites, cut_in}
use Rattle.vx_diskset.specs.GroupSets.{cut_value}
use Rattle.vx_diskset.specs.OverAways.{DeportsBelow}
use Rattle.vx_diskset.specs.OverPlains.{OnOver}
use Rattle.vx_diskset.specs.declared.disk_set.DiskSet.TheVariants.{OfGroup, Over}
use Rattle.vx_model.specs.declared.errors.Stop.TheVariants.{No as Refused}
use Rattle.vx_model.specs.declared.no.No.TheVariants.{Role}
use Rattle.vx_diskset.proofs.OverCalling.{at_overs}
use Rattle.vx_diskset.proofs.OverDoubted.{below_settled}
use Rattle.vx_diskset.proofs.OverMaking.{fuse_rest}
use Rattle.vx_diskset.proofs.OverPlain.{over_rest}
use Rattle.vx_diskset.proofs.OverRisen.{over_failing, over_fuse, over_later}
use Rattle.vx_diskset.proofs.GroupCalling.{at_sites, called_rest, deported_settled, group_failing, group_fuse, group_later, on_sites, on_rest, rises_called}
use Rattle.vx_grouped.specs.SiteMaps.{DeportMapped}
use Rattle.vx_diskset.proofs.disk_set.DiskSet.deport_group.Goals as goal

pub returns-in-OfGroup-clause-deported : goal.returns-in-OfGroup-clause-deported
returns-in-OfGroup-clause-deported g c = λ n note. on_sites (UpNoted n note) (λ o e. SiteDeported n note o e c.deport_site.result) c.args.self.now c.in-OfGroup.group (record c.in-OfGroup.group { site = c.deport_site.new.site }) c.in-OfGroup.is (c.deport_site.ensures.deported n note)

pub returns-in-OfGroup-clause-cut : goal.returns-in-OfGroup-clause-cut
returns-in-OfGroup-clause-cut g c = sym (ap (λ x. cut_in x) c.in-OfGroup.is)

pub returns-in-OfGroup-clause-fuse : goal.returns-in-OfGroup-clause-fuse
returns-in-OfGroup-clause-fuse g c = λ n note.
    let is_rack = (g.met.R.Rack g.world.𝓛 g.world.𝓜 g.world.𝓡 ((λ s x. x), (λ x. x), (λ x. x), λ x. x)).rack in
    at_sites (UpNoted n note) (FuseGoesOn c.args.self.now (OfGroup (record c.in-OfGroup.group { site = c.deport_site.new.site }))) c.args.self.now c.in-OfGroup.group c.in-OfGroup.is
    (λ it. group_fuse c.args.self.now c.in-OfGroup.group (record c.in-OfGroup.group { site = c.deport_site.new.site }) c.in-OfGroup.is c.deport_site.ensures.since (deported_settled is_rack n note c.in-OfGroup.group.site c.deport_site.new.site c.deport_site.result (c.deport_site.ensures.deported n note it)))

pub returns-in-OfGroup-clause-failing : goal.returns-in-OfGroup-clause-failing
returns-in-OfGroup-clause-failing g c = group_failing c.args.self.now c.in-OfGroup.group (record c.in-OfGroup.group { site = c.deport_site.new.site }) c.in-OfGroup.is c.deport_site.ensures.since

pub returns-in-OfGroup-clause-later : goal.returns-in-OfGroup-clause-later
returns-in-OfGroup-clause-later g c = group_later c.args.self.now c.in-OfGroup.group (record c.in-OfGroup.group { site = c.deport_site.new.site }) c.in-OfGroup.is c.deport_site.ensures.since c.deport_site.ensures.told

pub returns-in-OfGroup-clause-since : goal.returns-in-OfGroup-clause-since
returns-in-OfGroup-clause-since g c = subst (λ x. CalledOn x (OfGroup (record c.in-OfGroup.group { site = c.deport_site.new.site }))) (sym c.in-OfGroup.is) c.deport_site.ensures.since

pub returns-in_default-clause-deported : goal.returns-in_default-clause-deported
returns-in_default-clause-deported g c = λ n note. on_rest (UpNoted n note) (λ o e. SiteDeported n note o e (Err (Refused Role))) c.args.self.now c.in_default.not-OfGroup

pub returns-in_default-clause-cut : goal.returns-in_default-clause-cut
returns-in_default-clause-cut g c = refl

pub returns-in_default-clause-fuse : goal.returns-in_default-clause-fuse
returns-in_default-clause-fuse g c = λ n note up. fuse_rest c.args.self.now

pub returns-in_default-clause-failing : goal.returns-in_default-clause-failing
returns-in_default-clause-failing g c = failing_same c.args.self.now

pub returns-in_default-clause-since : goal.returns-in_default-clause-since
returns-in_default-clause-since g c = called_rest c.args.self.now

pub returns-in-OfGroup-clause-maps : goal.returns-in-OfGroup-clause-maps
returns-in-OfGroup-clause-maps g c = λ n note. on_sites (UpNoted n note) (λ o e. DeportMapped o e c.deport_site.result) c.args.self.now c.in-OfGroup.group (record c.in-OfGroup.group { site = c.deport_site.new.site }) c.in-OfGroup.is (c.deport_site.ensures.maps n note)

pub returns-in_default-clause-maps : goal.returns-in_default-clause-maps
returns-in_default-clause-maps g c = λ n note. on_rest (UpNoted n note) (λ o e. DeportMapped o e (Err (Refused Role))) c.args.self.now c.in_default.not-OfGroup

pub returns-in-OfGroup-clause-over : goal.returns-in-OfGroup-clause-over
returns-in-OfGroup-clause-over g c = subst (λ x. OnOver (DeportsBelow c.deport_site.result) x (OfGroup (record c.in-OfGroup.group { site = c.deport_site.new.site }))) (sym c.in-OfGroup.is) tt

pub returns-in_default-clause-over : goal.returns-in_default-clause-over
returns-in_default-clause-over g c = over_rest (DeportsBelow (Err (Refused Role))) c.args.self.now c.in_default.not-Over

pub returns-in-Over-clause-over : goal.returns-in-Over-clause-over
returns-in-Over-clause-over g c = subst (λ x. OnOver (DeportsBelow c.deport.result) x (Over c.deport.new.self)) (sym c.in-Over.is) c.deport.ensures.deports

pub returns-in-Over-clause-deported : goal.returns-in-Over-clause-deported
returns-in-Over-clause-deported g c = λ n note up. subst (λ x. OnSites (λ o e. SiteDeported n note o e c.deport.result) x (Over c.deport.new.self)) (sym c.in-Over.is) tt

pub returns-in-Over-clause-maps : goal.returns-in-Over-clause-maps
returns-in-Over-clause-maps g c = λ n note up. subst (λ x. OnSites (λ o e. DeportMapped o e c.deport.result) x (Over c.deport.new.self)) (sym c.in-Over.is) tt

pub returns-in-Over-clause-cut : goal.returns-in-Over-clause-cut
returns-in-Over-clause-cut g c = ap (λ x. cut_value x) c.deport.ensures.deports.cut ∙ sym (ap (λ x. cut_in x) c.in-Over.is)

pub returns-in-Over-clause-fuse : goal.returns-in-Over-clause-fuse
returns-in-Over-clause-fuse g c = λ n note.
    let is_rack = (g.met.R.Rack g.world.𝓛 g.world.𝓜 g.world.𝓡 ((λ s x. x), (λ x. x), (λ x. x), λ x. x)).rack in
    at_overs (UpNoted n note) (FuseGoesOn c.args.self.now (Over c.deport.new.self)) c.args.self.now c.in-Over.over c.in-Over.is
    (λ it. over_fuse c.args.self.now (Over c.deport.new.self) c.in-Over.over c.in-Over.is (rises_called (site_disks (site_in c.in-Over.over)) (site_disks (site_in c.deport.new.self)) c.deport.ensures.since)
    (below_settled is_rack n note (site_in c.in-Over.over) (site_in c.deport.new.self) c.deport.result (c.deport.ensures.deports.deported n note it)))

pub returns-in-Over-clause-failing : goal.returns-in-Over-clause-failing
returns-in-Over-clause-failing g c = over_failing c.args.self.now (Over c.deport.new.self) c.in-Over.over c.in-Over.is (rises_called (site_disks (site_in c.in-Over.over)) (site_disks (site_in c.deport.new.self)) c.deport.ensures.since)

pub returns-in-Over-clause-later : goal.returns-in-Over-clause-later
returns-in-Over-clause-later g c =
    over_later c.args.self.now (Over c.deport.new.self) c.in-Over.over c.in-Over.is (rises_called (site_disks (site_in c.in-Over.over)) (site_disks (site_in c.deport.new.self)) c.deport.ensures.since) c.deport.ensures.told

pub returns-in-Over-clause-since : goal.returns-in-Over-clause-since
returns-in-Over-clause-since g c = subst (λ x. CalledOn x (Over c.deport.new.self)) (sym c.in-Over.is) c.deport.ensures.since
