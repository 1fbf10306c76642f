-- `make_volume`: its refusals, and the volume that it makes.
use Rattle.std.proofs.Common.{◌≡◌, ◌∙◌, sym, subst}
use Rattle.std.specs.Prelude.{IfOk, Some}
use Rattle.vx_grouped.specs.GroupSites.{UpNoted}
use Rattle.vx_grouped.specs.SiteAdds.{VolumeIn, refuses_volume}
use Rattle.vx_grouped.proofs.VolumeLemmas.{rest_goes, site_goes}
use Rattle.vx_disk.specs.Moves.{Nowhere}
use Rattle.vx_grouped.specs.SiteMaps.{AddedMapped}
use Rattle.vx_grouped.proofs.group_site.GroupSite.make_volume.Goals as goal

pub returns-in-Up-clause-refused : goal.returns-in-Up-clause-refused
returns-in-Up-clause-refused g c = λ n note why it is.
    c.make_site-site.ensures.refused n note why (subst (λ e. UpNoted n note e) (sym c.replace.ensures.value ∙ c.in-Up.is) it) (subst (λ e. refuses_volume e c.args.name.now c.args.want.now ≡ Some why) (sym c.replace.ensures.value ∙ c.in-Up.is) is)

pub returns-in-Up-clause-volume : goal.returns-in-Up-clause-volume
returns-in-Up-clause-volume g c = λ n note it.
    subst (λ e. IfOk c.make_site-site.result.1 (λ vol. VolumeIn c.args.name.now c.args.want.now vol e c.make_site-site.result.0)) (sym (sym c.replace.ensures.value ∙ c.in-Up.is))
    (c.make_site-site.ensures.volume n note (subst (λ e. UpNoted n note e) (sym c.replace.ensures.value ∙ c.in-Up.is) it))

pub returns-in-Up-clause-maps : goal.returns-in-Up-clause-maps
returns-in-Up-clause-maps g c = λ n note it.
    subst (λ e. AddedMapped e c.make_site-site.result.0 c.make_site-site.result.1) (sym (sym c.replace.ensures.value ∙ c.in-Up.is))
    (c.make_site-site.ensures.maps n note (subst (λ e. UpNoted n note e) (sym c.replace.ensures.value ∙ c.in-Up.is) it))

pub returns-in-Up-clause-volumes : goal.returns-in-Up-clause-volumes
returns-in-Up-clause-volumes g c = site_goes Nowhere c.args.self.now c.in-Up.group c.make_site-site.result.0 (sym c.replace.ensures.value ∙ c.in-Up.is) c.make_site-site.ensures.volumes

pub returns-in_default-clause-volumes : goal.returns-in_default-clause-volumes
returns-in_default-clause-volumes g c = rest_goes Nowhere c.args.self.now c.replace.result c.replace.ensures.value (λ l is. c.in_default.not-Up l is)
