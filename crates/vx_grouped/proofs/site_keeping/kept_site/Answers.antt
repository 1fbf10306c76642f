-- Which blocks of a write a site's group has.
use Rattle.std.proofs.Common.{subst}
use Rattle.vx_untold.specs.Shades.{shade_meaning}
use Rattle.vx_grouped.specs.SiteKeeps.{PlainKeeps}
use Rattle.vx_grouped.proofs.SiteKeepLemmas.{kept_done, kept_failed}
use Rattle.vx_grouped.proofs.VolumeLemmas.{none_go, same_go}
use Rattle.vx_grouped.specs.Volumes.{laid_seen}
use Rattle.vx_grouped.proofs.UpMapLemmas.{read_maps}
use Rattle.vx_grouped.proofs.site_keeping.kept_site.Goals as goal

pub returns-in-Ok-clause-kept : goal.returns-in-Ok-clause-kept
returns-in-Ok-clause-kept g c = λ n note up fits.
    kept_done n note c.args.vol c.args.block c.args.bytes.now c.args.laid c.kept_watched-laid.result.0 up c.kept_watched-laid.ensures.since c.kept_watched-laid.ensures.told c.in-Ok.bits
    (subst (λ r. PlainKeeps c.args.vol c.args.block c.args.bytes.now c.args.laid.core (shade_meaning g.R.Shelf.meaning c.args.laid.shelf) c.kept_watched-laid.result.0.core (shade_meaning g.R.Shelf.meaning c.kept_watched-laid.result.0.shelf) r) c.in-Ok.is c.kept_watched-laid.ensures.works)

pub returns-in-Err-clause-kept : goal.returns-in-Err-clause-kept
returns-in-Err-clause-kept g c = λ n note up fits.
    kept_failed n note c.args.vol c.args.block c.args.bytes.now c.args.laid c.kept_watched-laid.result.0 up c.kept_watched-laid.ensures.since c.kept_watched-laid.ensures.told c.in-Err.no
    (subst (λ r. PlainKeeps c.args.vol c.args.block c.args.bytes.now c.args.laid.core (shade_meaning g.R.Shelf.meaning c.args.laid.shelf) c.kept_watched-laid.result.0.core (shade_meaning g.R.Shelf.meaning c.kept_watched-laid.result.0.shelf) r) c.in-Err.is c.kept_watched-laid.ensures.works)

pub returns-in-Ok-clause-maps : goal.returns-in-Ok-clause-maps
returns-in-Ok-clause-maps g c = λ n note up fits. read_maps c.args.laid c.kept_watched-laid.result.0 c.kept_watched-laid.ensures.maps

pub returns-in-Err-clause-maps : goal.returns-in-Err-clause-maps
returns-in-Err-clause-maps g c = λ n note up fits. read_maps c.args.laid c.kept_watched-laid.result.0 c.kept_watched-laid.ensures.maps

pub returns-in-Ok-clause-volumes : goal.returns-in-Ok-clause-volumes
returns-in-Ok-clause-volumes g c = none_go (laid_seen c.args.laid) (laid_seen c.kept_watched-laid.result.0) c.kept_watched-laid.ensures.works.goes

pub returns-in-Err-clause-volumes : goal.returns-in-Err-clause-volumes
returns-in-Err-clause-volumes g c = none_go (laid_seen c.args.laid) (laid_seen c.kept_watched-laid.result.0) c.kept_watched-laid.ensures.works.goes

pub returns-then-not-fits-clause-volumes : goal.returns-then-not-fits-clause-volumes
returns-then-not-fits-clause-volumes g c = same_go (laid_seen c.args.laid)
