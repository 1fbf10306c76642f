-- `write_plain`: what it writes, and leaves of the disks of the site.
use Rattle.std.proofs.Common.{◌≡◌, subst, sym}
use Rattle.std.specs.Prelude.{Err}
use Rattle.vx_grouped.specs.GroupSites.{UpNoted, site_disks}
use Rattle.vx_grouped.specs.Ends.{plain_write}
use Rattle.vx_grouped.specs.SiteEnds.{PlainWrote}
use Rattle.vx_diskset.specs.Aboves.{site_in}
use Rattle.vx_diskset.specs.Asked.{FuseGoesOn}
use Rattle.vx_diskset.specs.GroupCalls.{CalledOn, OnSites, cut_in}
use Rattle.vx_diskset.specs.GroupSets.{cut_behind}
use Rattle.vx_diskset.specs.OverPlains.{OnOver}
use Rattle.vx_diskset.specs.OverWrites.{WritesBelow}
use Rattle.vx_diskset.specs.declared.disk_set.DiskSet.TheVariants.{OfGroup, Over}
use Rattle.vx_model.specs.declared.no.No.TheVariants.{Role}
use Rattle.vx_diskset.proofs.OverCalling.{at_overs}
use Rattle.vx_diskset.proofs.OverMaking.{fuse_rest}
use Rattle.vx_diskset.proofs.OverPlain.{over_rest}
use Rattle.vx_diskset.proofs.OverRisen.{over_failing, over_fuse, over_later}
use Rattle.vx_diskset.proofs.OverWrites.{writes_settled}
use Rattle.vx_diskset.proofs.GroupCalling.{at_sites, called_rest, group_failing, group_fuse, group_later, on_sites, wrote_settled, on_rest, rises_called}
use Rattle.vx_grouped.specs.SiteMaps.{WroteMapped}
use Rattle.vx_diskset.proofs.disk_set.DiskSet.write_plain.Goals as goal

pub returns-in-OfGroup-clause-wrote : goal.returns-in-OfGroup-clause-wrote
returns-in-OfGroup-clause-wrote g c = λ n note up fits.
    on_sites (UpNoted n note) (λ o e. PlainWrote n note (plain_write c.args.volume c.args.start c.args.bytes.now) o e c.write_set.result) c.args.self.now c.in-OfGroup.group c.write_set.new.group c.in-OfGroup.is (λ it. c.write_set.ensures.wrote n note it fits) up

pub returns-in_default-clause-wrote : goal.returns-in_default-clause-wrote
returns-in_default-clause-wrote g c = λ n note up fits. on_rest (UpNoted n note) (λ o e. PlainWrote n note (plain_write c.args.volume c.args.start c.args.bytes.now) o e (Err Role)) c.args.self.now c.in_default.not-OfGroup up

pub returns-in-OfGroup-clause-cut : goal.returns-in-OfGroup-clause-cut
returns-in-OfGroup-clause-cut g c = λ n note up. subst (λ x. cut_in (OfGroup c.write_set.new.group) ≡ cut_behind c.write_set.result (plain_write c.args.volume c.args.start c.args.bytes.now) (cut_in x)) (sym c.in-OfGroup.is) c.write_set.ensures.cut

pub returns-in-OfGroup-clause-fuse : goal.returns-in-OfGroup-clause-fuse
returns-in-OfGroup-clause-fuse g c = λ n note up fits.
    let is_rack = (g.met.R.Rack g.world.𝓛 g.world.𝓜 g.world.𝓡 ((λ s x. x), (λ x. x), (λ x. x), λ x. x)).rack in
    at_sites (UpNoted n note) (FuseGoesOn c.args.self.now (OfGroup c.write_set.new.group)) c.args.self.now c.in-OfGroup.group c.in-OfGroup.is
    (λ it. group_fuse c.args.self.now c.in-OfGroup.group c.write_set.new.group c.in-OfGroup.is c.write_set.ensures.since (wrote_settled is_rack n note (plain_write c.args.volume c.args.start c.args.bytes.now) c.in-OfGroup.group.site c.write_set.new.group.site c.write_set.result (c.write_set.ensures.wrote n note it fits))) up

pub returns-in_default-clause-fuse : goal.returns-in_default-clause-fuse
returns-in_default-clause-fuse g c = λ n note up fits. fuse_rest c.args.self.now

pub returns-in-OfGroup-clause-failing : goal.returns-in-OfGroup-clause-failing
returns-in-OfGroup-clause-failing g c = group_failing c.args.self.now c.in-OfGroup.group c.write_set.new.group c.in-OfGroup.is c.write_set.ensures.since

pub returns-in-OfGroup-clause-later : goal.returns-in-OfGroup-clause-later
returns-in-OfGroup-clause-later g c = group_later c.args.self.now c.in-OfGroup.group c.write_set.new.group c.in-OfGroup.is c.write_set.ensures.since c.write_set.ensures.told

pub returns-in-OfGroup-clause-since : goal.returns-in-OfGroup-clause-since
returns-in-OfGroup-clause-since g c = subst (λ x. CalledOn x (OfGroup c.write_set.new.group)) (sym c.in-OfGroup.is) c.write_set.ensures.since

pub returns-in_default-clause-since : goal.returns-in_default-clause-since
returns-in_default-clause-since g c = called_rest c.args.self.now

pub returns-in-OfGroup-clause-maps : goal.returns-in-OfGroup-clause-maps
returns-in-OfGroup-clause-maps g c = λ n note up fits.
    on_sites (UpNoted n note) (λ o e. WroteMapped (plain_write c.args.volume c.args.start c.args.bytes.now) o e c.write_set.result) c.args.self.now c.in-OfGroup.group c.write_set.new.group c.in-OfGroup.is (λ it. c.write_set.ensures.maps n note it fits) up

pub returns-in_default-clause-maps : goal.returns-in_default-clause-maps
returns-in_default-clause-maps g c = λ n note up fits. on_rest (UpNoted n note) (λ o e. WroteMapped (plain_write c.args.volume c.args.start c.args.bytes.now) o e (Err Role)) c.args.self.now c.in_default.not-OfGroup up

pub returns-in-Over-clause-wrote : goal.returns-in-Over-clause-wrote
returns-in-Over-clause-wrote g c = λ n note up fits. subst (λ x. OnSites (λ o e. PlainWrote n note (plain_write c.args.volume c.args.start c.args.bytes.now) o e c.write_plain.result) x (Over c.write_plain.new.self)) (sym c.in-Over.is) tt

pub returns-in-Over-clause-maps : goal.returns-in-Over-clause-maps
returns-in-Over-clause-maps g c = λ n note up fits. subst (λ x. OnSites (λ o e. WroteMapped (plain_write c.args.volume c.args.start c.args.bytes.now) o e c.write_plain.result) x (Over c.write_plain.new.self)) (sym c.in-Over.is) tt

pub returns-in-Over-clause-over : goal.returns-in-Over-clause-over
returns-in-Over-clause-over g c = subst (λ x. OnOver (WritesBelow c.args.volume c.args.start c.args.bytes.now c.write_plain.result) x (Over c.write_plain.new.self)) (sym c.in-Over.is) c.write_plain.ensures.writes

pub returns-in-OfGroup-clause-over : goal.returns-in-OfGroup-clause-over
returns-in-OfGroup-clause-over g c = subst (λ x. OnOver (WritesBelow c.args.volume c.args.start c.args.bytes.now c.write_set.result) x (OfGroup c.write_set.new.group)) (sym c.in-OfGroup.is) tt

pub returns-in_default-clause-over : goal.returns-in_default-clause-over
returns-in_default-clause-over g c = over_rest (WritesBelow c.args.volume c.args.start c.args.bytes.now (Err Role)) c.args.self.now c.in_default.not-Over

pub returns-in-Over-clause-cut : goal.returns-in-Over-clause-cut
returns-in-Over-clause-cut g c = λ n note up. subst (λ x. cut_in (Over c.write_plain.new.self) ≡ cut_behind c.write_plain.result (plain_write c.args.volume c.args.start c.args.bytes.now) (cut_in x)) (sym c.in-Over.is) c.write_plain.ensures.writes.cut

pub returns-in-Over-clause-fuse : goal.returns-in-Over-clause-fuse
returns-in-Over-clause-fuse g c = λ n note up fits.
    let is_rack = (g.met.R.Rack g.world.𝓛 g.world.𝓜 g.world.𝓡 ((λ s x. x), (λ x. x), (λ x. x), λ x. x)).rack in
    at_overs (UpNoted n note) (FuseGoesOn c.args.self.now (Over c.write_plain.new.self)) c.args.self.now c.in-Over.over c.in-Over.is
    (λ it. over_fuse c.args.self.now (Over c.write_plain.new.self) c.in-Over.over c.in-Over.is (rises_called (site_disks (site_in c.in-Over.over)) (site_disks (site_in c.write_plain.new.self)) c.write_plain.ensures.since)
    (writes_settled is_rack n note (plain_write c.args.volume c.args.start c.args.bytes.now) (site_in c.in-Over.over) (site_in c.write_plain.new.self) c.write_plain.result (c.write_plain.ensures.writes.wrote n note it fits))) up

pub returns-in-Over-clause-failing : goal.returns-in-Over-clause-failing
returns-in-Over-clause-failing g c = over_failing c.args.self.now (Over c.write_plain.new.self) c.in-Over.over c.in-Over.is (rises_called (site_disks (site_in c.in-Over.over)) (site_disks (site_in c.write_plain.new.self)) c.write_plain.ensures.since)

pub returns-in-Over-clause-later : goal.returns-in-Over-clause-later
returns-in-Over-clause-later g c = over_later c.args.self.now (Over c.write_plain.new.self) c.in-Over.over c.in-Over.is (rises_called (site_disks (site_in c.in-Over.over)) (site_disks (site_in c.write_plain.new.self)) c.write_plain.ensures.since) c.write_plain.ensures.told

pub returns-in-Over-clause-since : goal.returns-in-Over-clause-since
returns-in-Over-clause-since g c = subst (λ x. CalledOn x (Over c.write_plain.new.self)) (sym c.in-Over.is) c.write_plain.ensures.since
