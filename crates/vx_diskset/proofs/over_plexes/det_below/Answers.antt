-- A plex of the group of a site that is detached, where the group is up.
use Rattle.std.proofs.Common.{◌≡◌, subst, sym}
use Rattle.std.specs.Prelude.{Some}
use Rattle.vx_disk.specs.Moves.{Nowhere}
use Rattle.vx_grouped.specs.GroupSites.{UpNoted, site_below, site_disks}
use Rattle.vx_grouped.specs.SiteEnds.{refuses_det}
use Rattle.vx_grouped.specs.SiteMaps.{DetMapped}
use Rattle.vx_watched.proofs.SinceLemmas.{since_none}
use Rattle.vx_watched.specs.Since.{CalledSince}
use Rattle.vx_watched.specs.Traces.{TellsLess}
use Rattle.vx_diskset.specs.OverKeeps.{BelowGoes}
use Rattle.vx_diskset.specs.OverPlains.{DetBelow}
use Rattle.vx_diskset.proofs.CallsBelow.{rest_below, up_never}
use Rattle.vx_diskset.proofs.over_plexes.det_below.Goals as goal

pub returns-in-Up-clause-called : goal.returns-in-Up-clause-called
returns-in-Up-clause-called g c = λ n note up.
    subst (λ e. DetBelow n note c.args.volume c.args.plex e c.det_over.result.0 c.det_over.result.1) (sym c.in-Up.is) (c.det_over.ensures.called n note (subst (λ e. UpNoted n note e) c.in-Up.is up))

pub returns-in-Up-clause-maps : goal.returns-in-Up-clause-maps
returns-in-Up-clause-maps g c = λ n note up.
    subst (λ e. DetMapped c.args.volume c.args.plex e c.det_over.result.0 c.det_over.result.1) (sym c.in-Up.is) (c.det_over.ensures.maps n note (subst (λ e. UpNoted n note e) c.in-Up.is up))

pub returns-in-Up-clause-refused : goal.returns-in-Up-clause-refused
returns-in-Up-clause-refused g c = λ n note why up is.
    c.det_over.ensures.refused n note why (subst (λ e. UpNoted n note e) c.in-Up.is up) (subst (λ e. refuses_det e c.args.volume c.args.plex ≡ Some why) c.in-Up.is is)

pub returns-in-Up-clause-off : goal.returns-in-Up-clause-off
returns-in-Up-clause-off g c = c.det_over.ensures.off

pub returns-in_default-clause-off : goal.returns-in_default-clause-off
returns-in_default-clause-off g c = tt

pub returns-in-Up-clause-goes : goal.returns-in-Up-clause-goes
returns-in-Up-clause-goes g c = subst (λ e. BelowGoes Nowhere e c.det_over.result.0) (sym c.in-Up.is) c.det_over.ensures.goes

pub returns-in-Up-clause-since : goal.returns-in-Up-clause-since
returns-in-Up-clause-since g c = subst (λ e. CalledSince (site_disks e) (site_disks c.det_over.result.0)) (sym c.in-Up.is) c.det_over.ensures.since

pub returns-in-Up-clause-told : goal.returns-in-Up-clause-told
returns-in-Up-clause-told g c = subst (λ e. TellsLess (site_below e) (site_below c.det_over.result.0)) (sym c.in-Up.is) c.det_over.ensures.told

pub returns-in_default-clause-called : goal.returns-in_default-clause-called
returns-in_default-clause-called g c = λ n note up. up_never n note c.args.site (λ laid is. c.in_default.not-Up laid is) up

pub returns-in_default-clause-maps : goal.returns-in_default-clause-maps
returns-in_default-clause-maps g c = λ n note up. up_never n note c.args.site (λ laid is. c.in_default.not-Up laid is) up

pub returns-in_default-clause-refused : goal.returns-in_default-clause-refused
returns-in_default-clause-refused g c = λ n note why up is. up_never n note c.args.site (λ laid at. c.in_default.not-Up laid at) up

pub returns-in_default-clause-goes : goal.returns-in_default-clause-goes
returns-in_default-clause-goes g c = rest_below c.args.site (λ laid is. c.in_default.not-Up laid is)

pub returns-in_default-clause-since : goal.returns-in_default-clause-since
returns-in_default-clause-since g c = since_none (site_disks c.args.site)

pub returns-in_default-clause-told : goal.returns-in_default-clause-told
returns-in_default-clause-told g c = λ told. told
