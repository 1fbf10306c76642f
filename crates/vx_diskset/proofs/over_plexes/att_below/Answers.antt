-- A plex of the group of a site that is attached, where the group is up.
use Rattle.std.proofs.Common.{◌≡◌, subst, sym}
use Rattle.std.specs.Prelude.{Some, IfOk, IsTrue, None, false}
use Rattle.vx_disk.specs.Moves.{Nowhere}
use Rattle.vx_grouped.specs.GroupSites.{UpNoted, site_below, site_disks}
use Rattle.vx_grouped.specs.SiteEnds.{RegionsOf, is_plex_on, refuses_att}
use Rattle.vx_grouped.specs.SiteMaps.{AttMapped}
use Rattle.vx_watched.proofs.SinceLemmas.{since_none}
use Rattle.vx_watched.specs.Since.{CalledSince}
use Rattle.vx_watched.specs.Traces.{TellsLess}
use Rattle.vx_diskset.specs.OverKeeps.{BelowGoes}
use Rattle.vx_diskset.specs.OverPlains.{AttBelow}
use Rattle.vx_diskset.proofs.CallsBelow.{rest_below, up_never}
use Rattle.vx_diskset.proofs.over_plexes.att_below.Goals as goal

pub returns-in-Up-clause-called : goal.returns-in-Up-clause-called
returns-in-Up-clause-called g c = λ n note up.
    subst (λ e. AttBelow n note c.args.volume c.args.plex e c.att_over.result.0 c.att_over.result.1) (sym c.in-Up.is) (c.att_over.ensures.called n note (subst (λ e. UpNoted n note e) c.in-Up.is up))

pub returns-in-Up-clause-maps : goal.returns-in-Up-clause-maps
returns-in-Up-clause-maps g c = λ n note up.
    subst (λ e. AttMapped c.args.volume c.args.plex e c.att_over.result.0 c.att_over.result.1) (sym c.in-Up.is) (c.att_over.ensures.maps n note (subst (λ e. UpNoted n note e) c.in-Up.is up))

pub returns-in-Up-clause-refused : goal.returns-in-Up-clause-refused
returns-in-Up-clause-refused g c = λ n note why up is.
    c.att_over.ensures.refused n note why (subst (λ e. UpNoted n note e) c.in-Up.is up) (subst (λ e. refuses_att e c.args.volume c.args.plex ≡ Some why) c.in-Up.is is)

pub returns-in-Up-clause-already : goal.returns-in-Up-clause-already
returns-in-Up-clause-already g c = λ n note up none on.
    c.att_over.ensures.already n note (subst (λ e. UpNoted n note e) c.in-Up.is up) (subst (λ e. refuses_att e c.args.volume c.args.plex ≡ None) c.in-Up.is none)
    (subst (λ e. IsTrue (is_plex_on e c.args.volume c.args.plex)) c.in-Up.is on)

pub returns-in-Up-clause-count : goal.returns-in-Up-clause-count
returns-in-Up-clause-count g c = λ off.
    subst (λ e. IfOk c.att_over.result.1 (λ k. RegionsOf e c.args.volume k)) (sym c.in-Up.is) (c.att_over.ensures.count (subst (λ e. is_plex_on e c.args.volume c.args.plex ≡ false) c.in-Up.is off))

pub returns-in-Up-clause-on : goal.returns-in-Up-clause-on
returns-in-Up-clause-on g c = λ off. c.att_over.ensures.on (subst (λ e. is_plex_on e c.args.volume c.args.plex ≡ false) c.in-Up.is off)

pub returns-in_default-clause-already : goal.returns-in_default-clause-already
returns-in_default-clause-already g c = λ n note up none on. up_never n note c.args.site (λ laid is. c.in_default.not-Up laid is) up

pub returns-in_default-clause-count : goal.returns-in_default-clause-count
returns-in_default-clause-count g c = λ off. tt

pub returns-in_default-clause-on : goal.returns-in_default-clause-on
returns-in_default-clause-on g c = λ off. tt

pub returns-in-Up-clause-goes : goal.returns-in-Up-clause-goes
returns-in-Up-clause-goes g c = subst (λ e. BelowGoes Nowhere e c.att_over.result.0) (sym c.in-Up.is) c.att_over.ensures.goes

pub returns-in-Up-clause-since : goal.returns-in-Up-clause-since
returns-in-Up-clause-since g c = subst (λ e. CalledSince (site_disks e) (site_disks c.att_over.result.0)) (sym c.in-Up.is) c.att_over.ensures.since

pub returns-in-Up-clause-told : goal.returns-in-Up-clause-told
returns-in-Up-clause-told g c = subst (λ e. TellsLess (site_below e) (site_below c.att_over.result.0)) (sym c.in-Up.is) c.att_over.ensures.told

pub returns-in_default-clause-called : goal.returns-in_default-clause-called
returns-in_default-clause-called g c = λ n note up. up_never n note c.args.site (λ laid is. c.in_default.not-Up laid is) up

pub returns-in_default-clause-maps : goal.returns-in_default-clause-maps
returns-in_default-clause-maps g c = λ n note up. up_never n note c.args.site (λ laid is. c.in_default.not-Up laid is) up

pub returns-in_default-clause-refused : goal.returns-in_default-clause-refused
returns-in_default-clause-refused g c = λ n note why up is. up_never n note c.args.site (λ laid at. c.in_default.not-Up laid at) up

pub returns-in_default-clause-goes : goal.returns-in_default-clause-goes
returns-in_default-clause-goes g c = rest_below c.args.site (λ laid is. c.in_default.not-Up laid is)

pub returns-in_default-clause-since : goal.returns-in_default-clause-since
returns-in_default-clause-since g c = since_none (site_disks c.args.site)

pub returns-in_default-clause-told : goal.returns-in_default-clause-told
returns-in_default-clause-told g c = λ told. told
