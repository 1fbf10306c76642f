-- `read_plain`: what it reads, and leaves of the disks of the site.
use Rattle.std.proofs.Common.{◌∙◌, length, subst, sym, ap}
use Rattle.std.specs.Prelude.{Err}
use Rattle.vx_grouped.specs.GroupSites.{UpNoted, site_disks}
use Rattle.vx_diskset.specs.Asked.{FuseGoesOn}
use Rattle.vx_diskset.specs.Aboves.{site_in}
use Rattle.vx_diskset.specs.GroupCalls.{CalledOn, OnSites, cut_in}
use Rattle.vx_diskset.specs.GroupSets.{cut_value}
use Rattle.vx_diskset.specs.OverPlains.{OnOver, ReadsBelow}
use Rattle.vx_diskset.specs.declared.disk_set.DiskSet.TheVariants.{OfGroup, Over}
use Rattle.vx_model.specs.declared.no.No.TheVariants.{Role}
use Rattle.vx_diskset.proofs.OverCalling.{at_overs}
use Rattle.vx_diskset.proofs.OverMaking.{fuse_rest}
use Rattle.vx_diskset.proofs.OverPlain.{over_rest}
use Rattle.vx_diskset.proofs.OverRisen.{over_failing, over_fuse, over_later}
use Rattle.vx_diskset.proofs.GroupCalling.{at_sites, called_rest, group_failing, group_fuse, group_later, on_sites, read_settled, rises_called, on_rest}
use Rattle.vx_grouped.specs.SiteEnds.{PlainRead}
use Rattle.vx_grouped.specs.SiteMaps.{StaysMapped}
use Rattle.vx_diskset.proofs.disk_set.DiskSet.read_plain.Goals as goal

pub returns-in-OfGroup-clause-read : goal.returns-in-OfGroup-clause-read
returns-in-OfGroup-clause-read g c = λ n note up fits.
    on_sites (UpNoted n note) (λ o e. PlainRead n note c.args.volume c.args.start c.read.new.into o e c.read.result) c.args.self.now c.in-OfGroup.group (record c.in-OfGroup.group { site = c.read.new.self }) c.in-OfGroup.is (λ it. c.read.ensures.read n note it fits) up

pub returns-in_default-clause-read : goal.returns-in_default-clause-read
returns-in_default-clause-read g c = λ n note up fits. on_rest (UpNoted n note) (λ o e. PlainRead n note c.args.volume c.args.start c.args.into.now o e (Err Role)) c.args.self.now c.in_default.not-OfGroup up

pub returns-in-OfGroup-clause-fuse : goal.returns-in-OfGroup-clause-fuse
returns-in-OfGroup-clause-fuse g c = λ n note up fits.
    let is_rack = (g.met.R.Rack g.world.𝓛 g.world.𝓜 g.world.𝓡 ((λ s x. x), (λ x. x), (λ x. x), λ x. x)).rack in
    at_sites (UpNoted n note) (FuseGoesOn c.args.self.now (OfGroup (record c.in-OfGroup.group { site = c.read.new.self }))) c.args.self.now c.in-OfGroup.group c.in-OfGroup.is (λ it. group_fuse c.args.self.now c.in-OfGroup.group (record c.in-OfGroup.group { site = c.read.new.self }) c.in-OfGroup.is c.read.ensures.since (read_settled is_rack n note c.args.volume c.args.start c.read.new.into c.in-OfGroup.group.site c.read.new.self c.read.result (c.read.ensures.read n note it fits))) up

pub returns-in_default-clause-fuse : goal.returns-in_default-clause-fuse
returns-in_default-clause-fuse g c = λ n note up fits. fuse_rest c.args.self.now

pub returns-in-OfGroup-clause-failing : goal.returns-in-OfGroup-clause-failing
returns-in-OfGroup-clause-failing g c = group_failing c.args.self.now c.in-OfGroup.group (record c.in-OfGroup.group { site = c.read.new.self }) c.in-OfGroup.is c.read.ensures.since

pub returns-in-OfGroup-clause-later : goal.returns-in-OfGroup-clause-later
returns-in-OfGroup-clause-later g c = group_later c.args.self.now c.in-OfGroup.group (record c.in-OfGroup.group { site = c.read.new.self }) c.in-OfGroup.is c.read.ensures.since c.read.ensures.told

pub returns-in-OfGroup-clause-since : goal.returns-in-OfGroup-clause-since
returns-in-OfGroup-clause-since g c = subst (λ x. CalledOn x (OfGroup (record c.in-OfGroup.group { site = c.read.new.self }))) (sym c.in-OfGroup.is) c.read.ensures.since

pub returns-in_default-clause-since : goal.returns-in_default-clause-since
returns-in_default-clause-since g c = called_rest c.args.self.now

pub returns-in-OfGroup-clause-cut : goal.returns-in-OfGroup-clause-cut
returns-in-OfGroup-clause-cut g c = sym (ap (λ x. cut_in x) c.in-OfGroup.is)

pub returns-in-OfGroup-clause-maps : goal.returns-in-OfGroup-clause-maps
returns-in-OfGroup-clause-maps g c = λ n note up fits.
    on_sites (UpNoted n note) (λ o e. StaysMapped o e) c.args.self.now c.in-OfGroup.group (record c.in-OfGroup.group { site = c.read.new.self }) c.in-OfGroup.is (λ it. c.read.ensures.maps n note it fits) up

pub returns-in_default-clause-maps : goal.returns-in_default-clause-maps
returns-in_default-clause-maps g c = λ n note up fits. on_rest (UpNoted n note) (λ o e. StaysMapped o e) c.args.self.now c.in_default.not-OfGroup up

pub returns-in-Over-clause-read : goal.returns-in-Over-clause-read
returns-in-Over-clause-read g c = λ n note up fits. subst (λ x. OnSites (λ o e. PlainRead n note c.args.volume c.args.start c.read_plain.new.into o e c.read_plain.result) x (Over c.read_plain.new.self)) (sym c.in-Over.is) tt

pub returns-in-Over-clause-maps : goal.returns-in-Over-clause-maps
returns-in-Over-clause-maps g c = λ n note up fits. subst (λ x. OnSites (λ o e. StaysMapped o e) x (Over c.read_plain.new.self)) (sym c.in-Over.is) tt

pub returns-in-Over-clause-over : goal.returns-in-Over-clause-over
returns-in-Over-clause-over g c = subst (λ x. OnOver (ReadsBelow c.args.volume c.args.start (length c.args.into.now) c.read_plain.new.into c.read_plain.result) x (Over c.read_plain.new.self)) (sym c.in-Over.is) c.read_plain.ensures.reads

pub returns-in-OfGroup-clause-over : goal.returns-in-OfGroup-clause-over
returns-in-OfGroup-clause-over g c =
    subst (λ x. OnOver (ReadsBelow c.args.volume c.args.start (length c.args.into.now) c.read.new.into c.read.result) x (OfGroup (record c.in-OfGroup.group { site = c.read.new.self }))) (sym c.in-OfGroup.is) tt

pub returns-in_default-clause-over : goal.returns-in_default-clause-over
returns-in_default-clause-over g c = over_rest (ReadsBelow c.args.volume c.args.start (length c.args.into.now) c.args.into.now (Err Role)) c.args.self.now c.in_default.not-Over

pub returns-in-Over-clause-cut : goal.returns-in-Over-clause-cut
returns-in-Over-clause-cut g c = ap (λ x. cut_value x) c.read_plain.ensures.reads.cut ∙ sym (ap (λ x. cut_in x) c.in-Over.is)

pub returns-in-Over-clause-fuse : goal.returns-in-Over-clause-fuse
returns-in-Over-clause-fuse g c = λ n note up fits.
    let is_rack = (g.met.R.Rack g.world.𝓛 g.world.𝓜 g.world.𝓡 ((λ s x. x), (λ x. x), (λ x. x), λ x. x)).rack in
    at_overs (UpNoted n note) (FuseGoesOn c.args.self.now (Over c.read_plain.new.self)) c.args.self.now c.in-Over.over c.in-Over.is
    (λ it. over_fuse c.args.self.now (Over c.read_plain.new.self) c.in-Over.over c.in-Over.is (rises_called (site_disks (site_in c.in-Over.over)) (site_disks (site_in c.read_plain.new.self)) c.read_plain.ensures.since)
    (read_settled is_rack n note c.args.volume c.args.start c.read_plain.new.into (site_in c.in-Over.over) (site_in c.read_plain.new.self) c.read_plain.result (c.read_plain.ensures.reads.read n note it fits))) up

pub returns-in-Over-clause-failing : goal.returns-in-Over-clause-failing
returns-in-Over-clause-failing g c =
    over_failing c.args.self.now (Over c.read_plain.new.self) c.in-Over.over c.in-Over.is (rises_called (site_disks (site_in c.in-Over.over)) (site_disks (site_in c.read_plain.new.self)) c.read_plain.ensures.since)

pub returns-in-Over-clause-later : goal.returns-in-Over-clause-later
returns-in-Over-clause-later g c =
    over_later c.args.self.now (Over c.read_plain.new.self) c.in-Over.over c.in-Over.is (rises_called (site_disks (site_in c.in-Over.over)) (site_disks (site_in c.read_plain.new.self)) c.read_plain.ensures.since) c.read_plain.ensures.told

pub returns-in-Over-clause-since : goal.returns-in-Over-clause-since
returns-in-Over-clause-since g c = subst (λ x. CalledOn x (Over c.read_plain.new.self)) (sym c.in-Over.is) c.read_plain.ensures.since
