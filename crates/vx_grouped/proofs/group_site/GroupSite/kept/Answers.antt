-- `kept`: what it makes of the volumes, and what is noted of the maps of a site stays so.
use Rattle.std.proofs.Common.{◌∙◌, sym, ◌≡◌, subst}
use Rattle.vx_disk.specs.Moves.{Nowhere}
use Rattle.vx_grouped.specs.GroupSites.{UpNoted}
use Rattle.vx_grouped.specs.SiteMaps.{StaysMapped}
use Rattle.vx_grouped.proofs.VolumeLemmas.{rest_goes, site_goes}
use Rattle.vx_grouped.proofs.group_site.GroupSite.kept.Goals as goal

pub returns-in-Up-clause-volumes : goal.returns-in-Up-clause-volumes
returns-in-Up-clause-volumes g c = site_goes Nowhere c.args.self.now c.in-Up.group c.kept_site-site.result.0 (sym c.replace.ensures.value ∙ c.in-Up.is) c.kept_site-site.ensures.volumes

pub returns-in_default-clause-volumes : goal.returns-in_default-clause-volumes
returns-in_default-clause-volumes g c = rest_goes Nowhere c.args.self.now c.replace.result c.replace.ensures.value (λ l is. c.in_default.not-Up l is)

pub returns-in-Up-clause-maps : goal.returns-in-Up-clause-maps
returns-in-Up-clause-maps g c = λ n note it fits.
    subst (λ e. StaysMapped e c.kept_site-site.result.0) (sym (sym c.replace.ensures.value ∙ c.in-Up.is))
    (c.kept_site-site.ensures.maps n note (subst (λ e. UpNoted n note e) (sym c.replace.ensures.value ∙ c.in-Up.is) it) fits)
