-- A write to a volume of a site's group: what it leaves of the site and of its disks.
use Rattle.std.proofs.Common.{◌∙◌, subst, sym}
use Rattle.vx_disk.specs.Disks.{Crashed}
use Rattle.vx_untold.specs.Shades.{shade_meaning, shade_rack}
use Rattle.vx_watched.proofs.SinceLemmas.{since_stop}
use Rattle.vx_grouped.specs.Watches.{PlainWrites}
use Rattle.vx_grouped.proofs.WroteLemmas.{down_by, wrote_cut, wrote_done, wrote_up}
use Rattle.vx_grouped.proofs.VolumeLemmas.{fell_behind, same_go, wider_go, write_goes}
use Rattle.vx_grouped.specs.Volumes.{laid_seen}
use Rattle.vx_disk.specs.Shelf.{Covers}
use Rattle.vx_disk.specs.Moves.{Nowhere}
use Rattle.vx_grouped.specs.Ends.{plain_write}
use Rattle.vx_grouped.specs.PlainMaps.{WritesMaps, laid_parts}
use Rattle.vx_grouped.specs.SiteMaps.{DoubtMaps, WriteMaps}
use Rattle.vx_grouped.proofs.UpMapLemmas.{down_maps, up_maps, up_still}
use Rattle.vx_grouped.proofs.site_plain.write_site.Goals as goal

pub returns-then-is_off-clause-wrote : goal.returns-then-is_off-clause-wrote
returns-then-is_off-clause-wrote g c = λ n note up fits.
    let is_rack = (g.met.R.Rack g.world.𝓛 g.world.𝓜 g.world.𝓡 ((λ s x. x), (λ x. x), (λ x. x), λ x. x)).rack in
    let racks = shade_rack g.R.Shelf.meaning is_rack in
    wrote_cut n note c.args.vol c.args.block c.args.bytes.now c.args.laid c.write_watched-laid.result.0 up c.write_watched-laid.ensures.since c.write_watched-laid.ensures.told racks c.crash.result c.crash.ensures.stopped c.crash.ensures.away c.crash.ensures.agreed c.crash.ensures.told c.in-Err.no (sym c.is_off.ensures ∙ c.if-is_off.true)
    (subst (λ r. PlainWrites c.args.vol c.args.block c.args.bytes.now c.args.laid.core (shade_meaning g.R.Shelf.meaning c.args.laid.shelf) c.write_watched-laid.result.0.core (shade_meaning g.R.Shelf.meaning c.write_watched-laid.result.0.shelf) r) c.in-Err.is c.write_watched-laid.ensures.works)

pub returns-then-is_off-clause-since : goal.returns-then-is_off-clause-since
returns-then-is_off-clause-since g c =
    let works = (subst (λ r. PlainWrites c.args.vol c.args.block c.args.bytes.now c.args.laid.core (shade_meaning g.R.Shelf.meaning c.args.laid.shelf) c.write_watched-laid.result.0.core (shade_meaning g.R.Shelf.meaning c.write_watched-laid.result.0.shelf) r) c.in-Err.is c.write_watched-laid.ensures.works) in
    since_stop (shade_meaning g.R.Shelf.meaning c.args.laid.shelf) (shade_meaning g.R.Shelf.meaning c.write_watched-laid.result.0.shelf) (shade_meaning g.R.Shelf.meaning c.crash.result.rack) (Crashed (shade_meaning g.R.Shelf.meaning c.write_watched-laid.result.0.shelf).size 0xffff_ffff_ffff_ffff) c.write_watched-laid.ensures.since
    (down_by (shade_meaning g.R.Shelf.meaning c.args.laid.shelf) (shade_meaning g.R.Shelf.meaning c.write_watched-laid.result.0.shelf) c.in-Err.no (sym c.is_off.ensures ∙ c.if-is_off.true) works.cause) c.crash.ensures.stopped c.crash.ensures.disks

pub returns-in-Ok-clause-wrote : goal.returns-in-Ok-clause-wrote
returns-in-Ok-clause-wrote g c = λ n note up fits.
    let is_rack = (g.met.R.Rack g.world.𝓛 g.world.𝓜 g.world.𝓡 ((λ s x. x), (λ x. x), (λ x. x), λ x. x)).rack in
    let racks = shade_rack g.R.Shelf.meaning is_rack in
    wrote_done n note c.args.vol c.args.block c.args.bytes.now c.args.laid c.write_watched-laid.result.0 up c.write_watched-laid.ensures.since c.write_watched-laid.ensures.told racks
    (subst (λ r. PlainWrites c.args.vol c.args.block c.args.bytes.now c.args.laid.core (shade_meaning g.R.Shelf.meaning c.args.laid.shelf) c.write_watched-laid.result.0.core (shade_meaning g.R.Shelf.meaning c.write_watched-laid.result.0.shelf) r) c.in-Ok.is c.write_watched-laid.ensures.works)

pub returns-else-is_off-clause-wrote : goal.returns-else-is_off-clause-wrote
returns-else-is_off-clause-wrote g c = λ n note up fits.
    let is_rack = (g.met.R.Rack g.world.𝓛 g.world.𝓜 g.world.𝓡 ((λ s x. x), (λ x. x), (λ x. x), λ x. x)).rack in
    let racks = shade_rack g.R.Shelf.meaning is_rack in
    wrote_up n note c.args.vol c.args.block c.args.bytes.now c.args.laid c.write_watched-laid.result.0 up c.write_watched-laid.ensures.since c.write_watched-laid.ensures.told racks c.in-Err.no (sym c.is_off.ensures ∙ c.if-is_off.false)
    (subst (λ r. PlainWrites c.args.vol c.args.block c.args.bytes.now c.args.laid.core (shade_meaning g.R.Shelf.meaning c.args.laid.shelf) c.write_watched-laid.result.0.core (shade_meaning g.R.Shelf.meaning c.write_watched-laid.result.0.shelf) r) c.in-Err.is c.write_watched-laid.ensures.works)

pub returns-then-is_off-clause-told : goal.returns-then-is_off-clause-told
returns-then-is_off-clause-told g c = λ told. c.write_watched-laid.ensures.told (c.crash.ensures.told told)

pub returns-in-Ok-clause-maps : goal.returns-in-Ok-clause-maps
returns-in-Ok-clause-maps g c = λ n note up fits.
    let works = (subst (λ r. PlainWrites c.args.vol c.args.block c.args.bytes.now c.args.laid.core (shade_meaning g.R.Shelf.meaning c.args.laid.shelf) c.write_watched-laid.result.0.core (shade_meaning g.R.Shelf.meaning c.write_watched-laid.result.0.shelf) r) c.in-Ok.is c.write_watched-laid.ensures.works) in
    up_maps (WriteMaps (plain_write c.args.vol c.args.block c.args.bytes.now)) c.args.laid c.write_watched-laid.result.0 (works.leaves n note up.at).1.up (subst (λ r. WritesMaps (plain_write c.args.vol c.args.block c.args.bytes.now) (laid_parts c.args.laid) (shade_meaning g.R.Shelf.meaning c.args.laid.shelf) (laid_parts c.write_watched-laid.result.0) (shade_meaning g.R.Shelf.meaning c.write_watched-laid.result.0.shelf) r) c.in-Ok.is c.write_watched-laid.ensures.maps)

pub returns-then-is_off-clause-maps : goal.returns-then-is_off-clause-maps
returns-then-is_off-clause-maps g c = λ n note up fits. down_maps (DoubtMaps (plain_write c.args.vol c.args.block c.args.bytes.now)) c.args.laid c.crash.result c.crash.ensures.rests

pub returns-else-is_off-clause-maps : goal.returns-else-is_off-clause-maps
returns-else-is_off-clause-maps g c = λ n note up fits.
    let works = (subst (λ r. PlainWrites c.args.vol c.args.block c.args.bytes.now c.args.laid.core (shade_meaning g.R.Shelf.meaning c.args.laid.shelf) c.write_watched-laid.result.0.core (shade_meaning g.R.Shelf.meaning c.write_watched-laid.result.0.shelf) r) c.in-Err.is c.write_watched-laid.ensures.works) in
    up_maps (DoubtMaps (plain_write c.args.vol c.args.block c.args.bytes.now)) c.args.laid c.write_watched-laid.result.0 (up_still n note (plain_write c.args.vol c.args.block c.args.bytes.now) c.write_watched-laid.result.0.core (shade_meaning g.R.Shelf.meaning c.write_watched-laid.result.0.shelf) c.in-Err.no (sym c.is_off.ensures ∙ c.if-is_off.false) (works.leaves n note up.at)) (subst (λ r. WritesMaps (plain_write c.args.vol c.args.block c.args.bytes.now) (laid_parts c.args.laid) (shade_meaning g.R.Shelf.meaning c.args.laid.shelf) (laid_parts c.write_watched-laid.result.0) (shade_meaning g.R.Shelf.meaning c.write_watched-laid.result.0.shelf) r) c.in-Err.is c.write_watched-laid.ensures.maps)

pub returns-in-Ok-clause-volumes : goal.returns-in-Ok-clause-volumes
returns-in-Ok-clause-volumes g c = write_goes c.args.vol c.args.block c.args.bytes.now (laid_seen c.args.laid) (laid_seen c.write_watched-laid.result.0) c.write_watched-laid.ensures.works.goes

pub returns-else-is_off-clause-volumes : goal.returns-else-is_off-clause-volumes
returns-else-is_off-clause-volumes g c = write_goes c.args.vol c.args.block c.args.bytes.now (laid_seen c.args.laid) (laid_seen c.write_watched-laid.result.0) c.write_watched-laid.ensures.works.goes

pub returns-then-is_off-clause-volumes : goal.returns-then-is_off-clause-volumes
returns-then-is_off-clause-volumes g c = fell_behind (Covers c.args.vol c.args.block c.args.bytes.now) c.args.laid c.write_watched-laid.result.0 c.crash.result (write_goes c.args.vol c.args.block c.args.bytes.now (laid_seen c.args.laid) (laid_seen c.write_watched-laid.result.0) c.write_watched-laid.ensures.works.goes) c.crash.ensures.stopped c.crash.ensures.agreed c.crash.ensures.lacking

pub returns-then-not-fits-clause-volumes : goal.returns-then-not-fits-clause-volumes
returns-then-not-fits-clause-volumes g c = wider_go Nowhere (Covers c.args.vol c.args.block c.args.bytes.now) (laid_seen c.args.laid) (laid_seen c.args.laid) (λ u b none. absurd none) (same_go (laid_seen c.args.laid))
