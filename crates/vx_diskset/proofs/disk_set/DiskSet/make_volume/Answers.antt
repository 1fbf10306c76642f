-- `make_volume`: what it leaves of the disks of the site.
use Rattle.std.proofs.Common.{◌≡◌, ◌∙◌, subst, sym, ap}
use Rattle.vx_grouped.specs.GroupSites.{UpNoted, site_disks}
use Rattle.vx_diskset.specs.Aboves.{site_in}
use Rattle.vx_diskset.specs.Asked.{FuseGoesOn}
use Rattle.vx_diskset.specs.GroupCalls.{AtPlain, CalledOn, OnSites, cut_in}
use Rattle.vx_diskset.specs.GroupSets.{cut_value}
use Rattle.vx_diskset.specs.OverPlains.{OnOver}
use Rattle.vx_diskset.specs.OverVolumes.{VolsBelow}
use Rattle.vx_diskset.specs.declared.disk_set.DiskSet.TheVariants.{OfGroup, Over}
use Rattle.vx_model.specs.declared.no.No.TheVariants.{Role}
use Rattle.vx_diskset.proofs.MakesBelow.{if_any, vol_below_settled}
use Rattle.vx_diskset.proofs.OverCalling.{at_overs}
use Rattle.vx_diskset.proofs.OverMaking.{fuse_rest}
use Rattle.vx_diskset.proofs.OverPlain.{over_rest}
use Rattle.vx_diskset.proofs.OverRisen.{over_failing, over_fuse, over_later}
use Rattle.vx_diskset.proofs.GroupCalling.{at_plain, at_sites, called_rest, group_failing, group_fuse, group_later, on_sites, added_settled, on_rest, plain_none, rises_called}
use Rattle.vx_grouped.specs.SiteAdds.{SiteAdded, VolumeIn, refuses_volume}
use Rattle.std.specs.Prelude.{Err, Some, IfOk}
use Rattle.vx_model.specs.declared.errors.Stop.TheVariants.{No as Refused}
use Rattle.vx_grouped.specs.SiteMaps.{AddedMapped}
use Rattle.vx_diskset.proofs.disk_set.DiskSet.make_volume.Goals as goal

pub returns-in-OfGroup-clause-made : goal.returns-in-OfGroup-clause-made
returns-in-OfGroup-clause-made g c = λ n note. on_sites (UpNoted n note) (λ o e. SiteAdded n note c.args.name.now c.args.want.now o e c.make_volume.result) c.args.self.now c.in-OfGroup.group (record c.in-OfGroup.group { site = c.make_volume.new.self }) c.in-OfGroup.is (c.make_volume.ensures.made n note)

pub returns-in_default-clause-made : goal.returns-in_default-clause-made
returns-in_default-clause-made g c = λ n note. on_rest (UpNoted n note) (λ o e. SiteAdded n note c.args.name.now c.args.want.now o e (Err (Refused Role))) c.args.self.now c.in_default.not-OfGroup

pub returns-in-OfGroup-clause-fuse : goal.returns-in-OfGroup-clause-fuse
returns-in-OfGroup-clause-fuse g c = λ n note.
    let is_rack = (g.met.R.Rack g.world.𝓛 g.world.𝓜 g.world.𝓡 ((λ s x. x), (λ x. x), (λ x. x), λ x. x)).rack in
    at_sites (UpNoted n note) (FuseGoesOn c.args.self.now (OfGroup (record c.in-OfGroup.group { site = c.make_volume.new.self }))) c.args.self.now c.in-OfGroup.group c.in-OfGroup.is (λ it. group_fuse c.args.self.now c.in-OfGroup.group (record c.in-OfGroup.group { site = c.make_volume.new.self }) c.in-OfGroup.is c.make_volume.ensures.since (added_settled is_rack n note c.args.name.now c.args.want.now c.in-OfGroup.group.site c.make_volume.new.self c.make_volume.result (c.make_volume.ensures.made n note it)))

pub returns-in_default-clause-fuse : goal.returns-in_default-clause-fuse
returns-in_default-clause-fuse g c = λ n note up. fuse_rest c.args.self.now

pub returns-in-OfGroup-clause-failing : goal.returns-in-OfGroup-clause-failing
returns-in-OfGroup-clause-failing g c = group_failing c.args.self.now c.in-OfGroup.group (record c.in-OfGroup.group { site = c.make_volume.new.self }) c.in-OfGroup.is c.make_volume.ensures.since

pub returns-in-OfGroup-clause-later : goal.returns-in-OfGroup-clause-later
returns-in-OfGroup-clause-later g c = group_later c.args.self.now c.in-OfGroup.group (record c.in-OfGroup.group { site = c.make_volume.new.self }) c.in-OfGroup.is c.make_volume.ensures.since c.make_volume.ensures.told

pub returns-in-OfGroup-clause-since : goal.returns-in-OfGroup-clause-since
returns-in-OfGroup-clause-since g c = subst (λ x. CalledOn x (OfGroup (record c.in-OfGroup.group { site = c.make_volume.new.self }))) (sym c.in-OfGroup.is) c.make_volume.ensures.since

pub returns-in_default-clause-since : goal.returns-in_default-clause-since
returns-in_default-clause-since g c = called_rest c.args.self.now

pub returns-in-OfGroup-clause-refused : goal.returns-in-OfGroup-clause-refused
returns-in-OfGroup-clause-refused g c = λ n note no up is.
    at_sites (UpNoted n note) (c.make_volume.result ≡ Err (Refused no)) c.args.self.now c.in-OfGroup.group c.in-OfGroup.is
    (λ it. at_plain (λ o. refuses_volume o c.args.name.now c.args.want.now ≡ Some no) (c.make_volume.result ≡ Err (Refused no)) c.args.self.now c.in-OfGroup.group c.in-OfGroup.is (λ at. c.make_volume.ensures.refused n note no it at) is) up

pub returns-in_default-clause-refused : goal.returns-in_default-clause-refused
returns-in_default-clause-refused g c = λ n note no up is. plain_none (λ o. refuses_volume o c.args.name.now c.args.want.now ≡ Some no) _ c.args.self.now c.in_default.not-OfGroup is

pub returns-in-OfGroup-clause-cut : goal.returns-in-OfGroup-clause-cut
returns-in-OfGroup-clause-cut g c = sym (ap (λ x. cut_in x) c.in-OfGroup.is)

pub returns-in-OfGroup-clause-volume : goal.returns-in-OfGroup-clause-volume
returns-in-OfGroup-clause-volume g c = λ n note.
    at_sites (UpNoted n note) (IfOk c.make_volume.result (λ vol. OnSites (VolumeIn c.args.name.now c.args.want.now vol) c.args.self.now (OfGroup (record c.in-OfGroup.group { site = c.make_volume.new.self })))) c.args.self.now c.in-OfGroup.group c.in-OfGroup.is
    (λ it. subst (λ x. IfOk c.make_volume.result (λ vol. OnSites (VolumeIn c.args.name.now c.args.want.now vol) x (OfGroup (record c.in-OfGroup.group { site = c.make_volume.new.self })))) (sym c.in-OfGroup.is) (c.make_volume.ensures.volume n note it))

pub returns-in-OfGroup-clause-maps : goal.returns-in-OfGroup-clause-maps
returns-in-OfGroup-clause-maps g c = λ n note. on_sites (UpNoted n note) (λ o e. AddedMapped o e c.make_volume.result) c.args.self.now c.in-OfGroup.group (record c.in-OfGroup.group { site = c.make_volume.new.self }) c.in-OfGroup.is (c.make_volume.ensures.maps n note)

pub returns-in_default-clause-maps : goal.returns-in_default-clause-maps
returns-in_default-clause-maps g c = λ n note. on_rest (UpNoted n note) (λ o e. AddedMapped o e (Err (Refused Role))) c.args.self.now c.in_default.not-OfGroup

pub returns-in-Over-clause-made : goal.returns-in-Over-clause-made
returns-in-Over-clause-made g c = λ n note up. subst (λ x. OnSites (λ o e. SiteAdded n note c.args.name.now c.args.want.now o e c.make.result) x (Over c.make.new.self)) (sym c.in-Over.is) tt

pub returns-in-Over-clause-maps : goal.returns-in-Over-clause-maps
returns-in-Over-clause-maps g c = λ n note up. subst (λ x. OnSites (λ o e. AddedMapped o e c.make.result) x (Over c.make.new.self)) (sym c.in-Over.is) tt

pub returns-in-Over-clause-refused : goal.returns-in-Over-clause-refused
returns-in-Over-clause-refused g c = λ n note no up is. absurd (subst (λ x. AtPlain (λ o. refuses_volume o c.args.name.now c.args.want.now ≡ Some no) x) c.in-Over.is is)

pub returns-in-Over-clause-volume : goal.returns-in-Over-clause-volume
returns-in-Over-clause-volume g c = λ n note up. subst (λ x. IfOk c.make.result (λ vol. OnSites (VolumeIn c.args.name.now c.args.want.now vol) x (Over c.make.new.self))) (sym c.in-Over.is) (if_any c.make.result (λ vol. tt))

pub returns-in-Over-clause-over : goal.returns-in-Over-clause-over
returns-in-Over-clause-over g c = subst (λ x. OnOver (VolsBelow c.args.name.now c.args.want.now c.make.result) x (Over c.make.new.self)) (sym c.in-Over.is) c.make.ensures.makes

pub returns-in-OfGroup-clause-over : goal.returns-in-OfGroup-clause-over
returns-in-OfGroup-clause-over g c = subst (λ x. OnOver (VolsBelow c.args.name.now c.args.want.now c.make_volume.result) x (OfGroup (record c.in-OfGroup.group { site = c.make_volume.new.self }))) (sym c.in-OfGroup.is) tt

pub returns-in_default-clause-over : goal.returns-in_default-clause-over
returns-in_default-clause-over g c = over_rest (VolsBelow c.args.name.now c.args.want.now (Err (Refused Role))) c.args.self.now c.in_default.not-Over

pub returns-in-Over-clause-cut : goal.returns-in-Over-clause-cut
returns-in-Over-clause-cut g c = ap (λ x. cut_value x) c.make.ensures.makes.cut ∙ sym (ap (λ x. cut_in x) c.in-Over.is)

pub returns-in-Over-clause-fuse : goal.returns-in-Over-clause-fuse
returns-in-Over-clause-fuse g c = λ n note up.
    let is_rack = (g.met.R.Rack g.world.𝓛 g.world.𝓜 g.world.𝓡 ((λ s x. x), (λ x. x), (λ x. x), λ x. x)).rack in
    at_overs (UpNoted n note) (FuseGoesOn c.args.self.now (Over c.make.new.self)) c.args.self.now c.in-Over.over c.in-Over.is
    (λ it. over_fuse c.args.self.now (Over c.make.new.self) c.in-Over.over c.in-Over.is (rises_called (site_disks (site_in c.in-Over.over)) (site_disks (site_in c.make.new.self)) c.make.ensures.since)
    (vol_below_settled is_rack n note c.args.name.now c.args.want.now (site_in c.in-Over.over) (site_in c.make.new.self) c.make.result (c.make.ensures.makes.made n note it))) up

pub returns-in-Over-clause-failing : goal.returns-in-Over-clause-failing
returns-in-Over-clause-failing g c = over_failing c.args.self.now (Over c.make.new.self) c.in-Over.over c.in-Over.is (rises_called (site_disks (site_in c.in-Over.over)) (site_disks (site_in c.make.new.self)) c.make.ensures.since)

pub returns-in-Over-clause-later : goal.returns-in-Over-clause-later
returns-in-Over-clause-later g c = over_later c.args.self.now (Over c.make.new.self) c.in-Over.over c.in-Over.is (rises_called (site_disks (site_in c.in-Over.over)) (site_disks (site_in c.make.new.self)) c.make.ensures.since) c.make.ensures.told

pub returns-in-Over-clause-since : goal.returns-in-Over-clause-since
returns-in-Over-clause-since g c = subst (λ x. CalledOn x (Over c.make.new.self)) (sym c.in-Over.is) c.make.ensures.since
