-- A volume that is made in the group of a site, where the group is up.
use Rattle.std.proofs.Common.{◌≡◌, subst, sym}
use Rattle.std.specs.Prelude.{IfOk, Some}
use Rattle.vx_disk.specs.Moves.{Nowhere}
use Rattle.vx_grouped.specs.Added.{IsUnmoved}
use Rattle.vx_grouped.specs.GroupSites.{UpNoted, site_below, site_disks}
use Rattle.vx_grouped.specs.SiteAdds.{VolumeIn, refuses_volume}
use Rattle.vx_grouped.specs.SiteMaps.{AddedMapped}
use Rattle.vx_watched.proofs.SinceLemmas.{since_none}
use Rattle.vx_watched.specs.Since.{CalledSince}
use Rattle.vx_watched.specs.Traces.{TellsLess}
use Rattle.vx_diskset.specs.OverKeeps.{BelowGoes}
use Rattle.vx_diskset.specs.OverVolumes.{StillSite, VolBelow}
use Rattle.vx_diskset.proofs.CallsBelow.{rest_below, up_never}
use Rattle.vx_diskset.proofs.over_volumes.make_below.Goals as goal

pub returns-in-Up-clause-made : goal.returns-in-Up-clause-made
returns-in-Up-clause-made g c = λ n note up.
    subst (λ e. VolBelow n note c.args.name.now c.args.want.now e c.make_over.result.0 c.make_over.result.1) (sym c.in-Up.is) (c.make_over.ensures.made n note (subst (λ e. UpNoted n note e) c.in-Up.is up))

pub returns-in-Up-clause-maps : goal.returns-in-Up-clause-maps
returns-in-Up-clause-maps g c = λ n note up.
    subst (λ e. AddedMapped e c.make_over.result.0 c.make_over.result.1) (sym c.in-Up.is) (c.make_over.ensures.maps n note (subst (λ e. UpNoted n note e) c.in-Up.is up))

pub returns-in-Up-clause-refused : goal.returns-in-Up-clause-refused
returns-in-Up-clause-refused g c = λ n note why up is.
    c.make_over.ensures.refused n note why (subst (λ e. UpNoted n note e) c.in-Up.is up) (subst (λ e. refuses_volume e c.args.name.now c.args.want.now ≡ Some why) c.in-Up.is is)

pub returns-in-Up-clause-volume : goal.returns-in-Up-clause-volume
returns-in-Up-clause-volume g c = λ n note up.
    subst (λ e. IfOk c.make_over.result.1 (λ vol. VolumeIn c.args.name.now c.args.want.now vol e c.make_over.result.0)) (sym c.in-Up.is) (c.make_over.ensures.volume n note (subst (λ e. UpNoted n note e) c.in-Up.is up))

pub returns-in-Up-clause-still : goal.returns-in-Up-clause-still
returns-in-Up-clause-still g c = subst (λ e. IsUnmoved c.make_over.result.1 (StillSite e c.make_over.result.0)) (sym c.in-Up.is) c.make_over.ensures.still

pub returns-in-Up-clause-goes : goal.returns-in-Up-clause-goes
returns-in-Up-clause-goes g c = subst (λ e. BelowGoes Nowhere e c.make_over.result.0) (sym c.in-Up.is) c.make_over.ensures.goes

pub returns-in-Up-clause-since : goal.returns-in-Up-clause-since
returns-in-Up-clause-since g c = subst (λ e. CalledSince (site_disks e) (site_disks c.make_over.result.0)) (sym c.in-Up.is) c.make_over.ensures.since

pub returns-in-Up-clause-told : goal.returns-in-Up-clause-told
returns-in-Up-clause-told g c = subst (λ e. TellsLess (site_below e) (site_below c.make_over.result.0)) (sym c.in-Up.is) c.make_over.ensures.told

pub returns-in_default-clause-made : goal.returns-in_default-clause-made
returns-in_default-clause-made g c = λ n note up. up_never n note c.args.site (λ laid is. c.in_default.not-Up laid is) up

pub returns-in_default-clause-maps : goal.returns-in_default-clause-maps
returns-in_default-clause-maps g c = λ n note up. up_never n note c.args.site (λ laid is. c.in_default.not-Up laid is) up

pub returns-in_default-clause-volume : goal.returns-in_default-clause-volume
returns-in_default-clause-volume g c = λ n note up. up_never n note c.args.site (λ laid is. c.in_default.not-Up laid is) up

pub returns-in_default-clause-refused : goal.returns-in_default-clause-refused
returns-in_default-clause-refused g c = λ n note why up is. up_never n note c.args.site (λ laid at. c.in_default.not-Up laid at) up

pub returns-in_default-clause-still : goal.returns-in_default-clause-still
returns-in_default-clause-still g c = tt

pub returns-in_default-clause-goes : goal.returns-in_default-clause-goes
returns-in_default-clause-goes g c = rest_below c.args.site (λ laid is. c.in_default.not-Up laid is)

pub returns-in_default-clause-since : goal.returns-in_default-clause-since
returns-in_default-clause-since g c = since_none (site_disks c.args.site)

pub returns-in_default-clause-told : goal.returns-in_default-clause-told
returns-in_default-clause-told g c = λ told. told
