-- A read of a volume of a site's group.
use Rattle.std.proofs.Common.{subst}
use Rattle.vx_untold.specs.Shades.{shade_meaning, shade_rack}
use Rattle.vx_grouped.specs.Watches.{PlainReads}
use Rattle.vx_grouped.proofs.WroteLemmas.{read_done, read_failed}
use Rattle.vx_grouped.proofs.VolumeLemmas.{none_go, same_go}
use Rattle.vx_grouped.specs.Volumes.{laid_seen}
use Rattle.vx_grouped.proofs.UpMapLemmas.{read_maps}
use Rattle.vx_grouped.proofs.site_plain.read_site.Goals as goal

pub returns-in-Ok-clause-read : goal.returns-in-Ok-clause-read
returns-in-Ok-clause-read g c = λ n note up fits.
    read_done n note c.args.vol c.args.block c.read_watched-laid.new.into c.args.laid c.read_watched-laid.result.0 up c.read_watched-laid.ensures.since c.read_watched-laid.ensures.told
    (subst (λ r. PlainReads c.args.vol c.args.block c.read_watched-laid.new.into c.args.laid.core (shade_meaning g.R.Shelf.meaning c.args.laid.shelf) c.read_watched-laid.result.0.core (shade_meaning g.R.Shelf.meaning c.read_watched-laid.result.0.shelf) r) c.in-Ok.is c.read_watched-laid.ensures.works)

pub returns-in-Err-clause-read : goal.returns-in-Err-clause-read
returns-in-Err-clause-read g c = λ n note up fits.
    let is_rack = (g.met.R.Rack g.world.𝓛 g.world.𝓜 g.world.𝓡 ((λ s x. x), (λ x. x), (λ x. x), λ x. x)).rack in
    read_failed n note c.args.vol c.args.block c.read_watched-laid.new.into c.args.laid c.read_watched-laid.result.0 up c.read_watched-laid.ensures.since c.read_watched-laid.ensures.told (shade_rack g.R.Shelf.meaning is_rack) c.in-Err.no
    (subst (λ r. PlainReads c.args.vol c.args.block c.read_watched-laid.new.into c.args.laid.core (shade_meaning g.R.Shelf.meaning c.args.laid.shelf) c.read_watched-laid.result.0.core (shade_meaning g.R.Shelf.meaning c.read_watched-laid.result.0.shelf) r) c.in-Err.is c.read_watched-laid.ensures.works)

pub returns-in-Ok-clause-maps : goal.returns-in-Ok-clause-maps
returns-in-Ok-clause-maps g c = λ n note up fits. read_maps c.args.laid c.read_watched-laid.result.0 c.read_watched-laid.ensures.maps

pub returns-in-Err-clause-maps : goal.returns-in-Err-clause-maps
returns-in-Err-clause-maps g c = λ n note up fits. read_maps c.args.laid c.read_watched-laid.result.0 c.read_watched-laid.ensures.maps

pub returns-in-Ok-clause-volumes : goal.returns-in-Ok-clause-volumes
returns-in-Ok-clause-volumes g c = none_go (laid_seen c.args.laid) (laid_seen c.read_watched-laid.result.0) c.read_watched-laid.ensures.works.goes

pub returns-in-Err-clause-volumes : goal.returns-in-Err-clause-volumes
returns-in-Err-clause-volumes g c = none_go (laid_seen c.args.laid) (laid_seen c.read_watched-laid.result.0) c.read_watched-laid.ensures.works.goes

pub returns-then-not-fits-clause-volumes : goal.returns-then-not-fits-clause-volumes
returns-then-not-fits-clause-volumes g c = same_go (laid_seen c.args.laid)
