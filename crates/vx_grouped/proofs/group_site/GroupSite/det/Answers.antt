-- `det`: its refusals, and that the other plexes stay as they were.
use Rattle.std.proofs.Common.{◌∙◌, sym, ◌≡◌, subst}
use Rattle.std.specs.Prelude.{Some}
use Rattle.vx_grouped.specs.GroupSites.{UpNoted, site_below, site_disks}
use Rattle.vx_grouped.specs.SiteEnds.{DetCalled, refuses_det}
use Rattle.vx_grouped.proofs.SiteCarry.{others_as}
use Rattle.vx_grouped.proofs.VolumeLemmas.{rest_goes, site_goes}
use Rattle.vx_disk.specs.Moves.{Nowhere}
use Rattle.vx_grouped.specs.SiteMaps.{DetMapped}
use Rattle.vx_watched.proofs.SinceLemmas.{since_none}
use Rattle.vx_watched.specs.Traces.{TellsLess}
use Rattle.vx_watched.specs.Since.{CalledSince}
use Rattle.vx_grouped.proofs.group_site.GroupSite.det.Goals as goal

pub returns-in-Up-clause-refused : goal.returns-in-Up-clause-refused
returns-in-Up-clause-refused g c = λ n note why it is. c.det_site-site.ensures.refused n note why (subst (λ e. UpNoted n note e) (sym c.replace.ensures.value ∙ c.in-Up.is) it) (subst (λ e. refuses_det e c.args.vol c.args.plex ≡ Some why) (sym c.replace.ensures.value ∙ c.in-Up.is) is)

pub returns-in-Up-clause-others : goal.returns-in-Up-clause-others
returns-in-Up-clause-others g c = others_as c.args.self.now c.in-Up.group c.det_site-site.result.0 c.det_site-site.result.1 c.args.vol c.args.plex (sym c.replace.ensures.value ∙ c.in-Up.is) c.det_site-site.ensures.others

pub returns-in-Up-clause-called : goal.returns-in-Up-clause-called
returns-in-Up-clause-called g c = λ n note it.
    subst (λ e. DetCalled n note c.args.vol c.args.plex e c.det_site-site.result.0 c.det_site-site.result.1) (sym (sym c.replace.ensures.value ∙ c.in-Up.is))
    (c.det_site-site.ensures.called n note (subst (λ e. UpNoted n note e) (sym c.replace.ensures.value ∙ c.in-Up.is) it))

pub returns-in-Up-clause-maps : goal.returns-in-Up-clause-maps
returns-in-Up-clause-maps g c = λ n note it.
    subst (λ e. DetMapped c.args.vol c.args.plex e c.det_site-site.result.0 c.det_site-site.result.1) (sym (sym c.replace.ensures.value ∙ c.in-Up.is))
    (c.det_site-site.ensures.maps n note (subst (λ e. UpNoted n note e) (sym c.replace.ensures.value ∙ c.in-Up.is) it))

pub returns-in-Up-clause-volumes : goal.returns-in-Up-clause-volumes
returns-in-Up-clause-volumes g c = site_goes Nowhere c.args.self.now c.in-Up.group c.det_site-site.result.0 (sym c.replace.ensures.value ∙ c.in-Up.is) c.det_site-site.ensures.volumes

pub returns-in_default-clause-volumes : goal.returns-in_default-clause-volumes
returns-in_default-clause-volumes g c = rest_goes Nowhere c.args.self.now c.replace.result c.replace.ensures.value (λ l is. c.in_default.not-Up l is)

pub returns-in-Up-clause-off : goal.returns-in-Up-clause-off
returns-in-Up-clause-off g c = c.det_site-site.ensures.off

pub returns-in_default-clause-off : goal.returns-in_default-clause-off
returns-in_default-clause-off g c = tt

pub returns-in-Up-clause-since : goal.returns-in-Up-clause-since
returns-in-Up-clause-since g c = subst (λ e. CalledSince (site_disks e) (site_disks c.det_site-site.result.0)) (sym (sym c.replace.ensures.value ∙ c.in-Up.is)) c.det_site-site.ensures.since

pub returns-in-Up-clause-told : goal.returns-in-Up-clause-told
returns-in-Up-clause-told g c = subst (λ e. TellsLess (site_below e) (site_below c.det_site-site.result.0)) (sym (sym c.replace.ensures.value ∙ c.in-Up.is)) c.det_site-site.ensures.told

pub returns-in_default-clause-others : goal.returns-in_default-clause-others
returns-in_default-clause-others g c = tt

pub returns-in_default-clause-since : goal.returns-in_default-clause-since
returns-in_default-clause-since g c = subst (λ e. CalledSince (site_disks c.args.self.now) (site_disks e)) (sym c.replace.ensures.value) (since_none (site_disks c.args.self.now))

pub returns-in_default-clause-told : goal.returns-in_default-clause-told
returns-in_default-clause-told g c = subst (λ e. TellsLess (site_below c.args.self.now) (site_below e)) (sym c.replace.ensures.value) (λ told. told)
