-- A volume that is made in a site's group: what it leaves of the site and of its disks.
use Rattle.std.proofs.Common.{◌≡◌, ◌∙◌, ℕ, subst, sym}
use Rattle.vx_disk.specs.Disks.{Crashed}
use Rattle.vx_disk.specs.Moves.{Nowhere}
use Rattle.vx_untold.specs.Shades.{shade_meaning, shade_rack}
use Rattle.vx_watched.proofs.SinceLemmas.{since_stop}
use Rattle.vx_grouped.specs.Added.{IsUnmoved}
use Rattle.vx_grouped.specs.SiteAdds.{MakesVolume}
use Rattle.vx_grouped.proofs.SiteAddLemmas.{made_cut, made_done, made_up, made_volume, make_down}
use Rattle.vx_grouped.specs.Volumes.{laid_seen}
use Rattle.vx_grouped.proofs.VolumeLemmas.{fell_behind, same_go}
use Rattle.vx_grouped.specs.PlainMaps.{AddsMaps, laid_parts, PartsStay}
use Rattle.vx_grouped.specs.SiteMaps.{AddMaps, MapsLike, StaysMapped}
use Rattle.vx_grouped.proofs.AddMapLemmas.{add_still}
use Rattle.vx_grouped.proofs.UpMapLemmas.{down_maps, up_maps}
use Rattle.vx_grouped.proofs.StayPartLemmas.{quiet_down, quiet_map, stays_up}
use Rattle.vx_grouped.specs.declared.group_site.GroupSite.TheVariants.{Up, Down}
use Rattle.vx_grouped.proofs.site_making.make_site.Goals as goal

pub returns-then-is_down_stop-clause-made : goal.returns-then-is_down_stop-clause-made
returns-then-is_down_stop-clause-made g c = λ n note up.
    let is_rack = (g.met.R.Rack g.world.𝓛 g.world.𝓜 g.world.𝓡 ((λ s x. x), (λ x. x), (λ x. x), λ x. x)).rack in
    let racks = shade_rack g.R.Shelf.meaning is_rack in
    made_cut n note c.args.name.now c.args.want.now c.args.laid c.make_watched-laid.result.0 up c.make_watched-laid.ensures.since c.make_watched-laid.ensures.told c.spelled.ensures racks c.crash.result c.crash.ensures.stopped c.crash.ensures.away c.crash.ensures.agreed c.crash.ensures.told c.in-Err.stop (sym c.is_down_stop.ensures ∙ c.if-is_down_stop.true)
    (subst (λ r. MakesVolume c.args.name.now c.args.want.now c.args.laid.core (shade_meaning g.R.Shelf.meaning c.args.laid.shelf) c.make_watched-laid.result.0.core (shade_meaning g.R.Shelf.meaning c.make_watched-laid.result.0.shelf) r) c.in-Err.is c.make_watched-laid.ensures.works)

pub returns-then-is_down_stop-clause-since : goal.returns-then-is_down_stop-clause-since
returns-then-is_down_stop-clause-since g c =
    since_stop (shade_meaning g.R.Shelf.meaning c.args.laid.shelf) (shade_meaning g.R.Shelf.meaning c.make_watched-laid.result.0.shelf) (shade_meaning g.R.Shelf.meaning c.crash.result.rack) (Crashed (shade_meaning g.R.Shelf.meaning c.make_watched-laid.result.0.shelf).size 0xffff_ffff_ffff_ffff) c.make_watched-laid.ensures.since
    (make_down c.args.name.now c.args.want.now c.args.laid.core c.make_watched-laid.result.0.core (shade_meaning g.R.Shelf.meaning c.args.laid.shelf) (shade_meaning g.R.Shelf.meaning c.make_watched-laid.result.0.shelf) c.make_watched-laid.result.1 c.make_watched-laid.ensures.works c.in-Err.stop c.in-Err.is (sym c.is_down_stop.ensures ∙ c.if-is_down_stop.true)) c.crash.ensures.stopped c.crash.ensures.disks

pub returns-in-Ok-clause-made : goal.returns-in-Ok-clause-made
returns-in-Ok-clause-made g c = λ n note up.
    let is_rack = (g.met.R.Rack g.world.𝓛 g.world.𝓜 g.world.𝓡 ((λ s x. x), (λ x. x), (λ x. x), λ x. x)).rack in
    let racks = shade_rack g.R.Shelf.meaning is_rack in
    made_done n note c.args.name.now c.args.want.now c.args.laid c.make_watched-laid.result.0 up c.make_watched-laid.ensures.since c.make_watched-laid.ensures.told c.spelled.ensures racks c.in-Ok.vol
    (subst (λ r. MakesVolume c.args.name.now c.args.want.now c.args.laid.core (shade_meaning g.R.Shelf.meaning c.args.laid.shelf) c.make_watched-laid.result.0.core (shade_meaning g.R.Shelf.meaning c.make_watched-laid.result.0.shelf) r) c.in-Ok.is c.make_watched-laid.ensures.works)

pub returns-in-Ok-clause-volume : goal.returns-in-Ok-clause-volume
returns-in-Ok-clause-volume g c = λ n note up. made_volume c.args.name.now c.args.want.now c.args.laid.core c.make_watched-laid.result.0.core (shade_meaning g.R.Shelf.meaning c.args.laid.shelf) (shade_meaning g.R.Shelf.meaning c.make_watched-laid.result.0.shelf) c.make_watched-laid.result.1 c.make_watched-laid.ensures.works c.in-Ok.vol c.in-Ok.is

pub returns-else-is_down_stop-clause-made : goal.returns-else-is_down_stop-clause-made
returns-else-is_down_stop-clause-made g c = λ n note up.
    let is_rack = (g.met.R.Rack g.world.𝓛 g.world.𝓜 g.world.𝓡 ((λ s x. x), (λ x. x), (λ x. x), λ x. x)).rack in
    let racks = shade_rack g.R.Shelf.meaning is_rack in
    made_up n note c.args.name.now c.args.want.now c.args.laid c.make_watched-laid.result.0 up c.make_watched-laid.ensures.since c.make_watched-laid.ensures.told c.spelled.ensures racks c.in-Err.stop (sym c.is_down_stop.ensures ∙ c.if-is_down_stop.false)
    (subst (λ r. MakesVolume c.args.name.now c.args.want.now c.args.laid.core (shade_meaning g.R.Shelf.meaning c.args.laid.shelf) c.make_watched-laid.result.0.core (shade_meaning g.R.Shelf.meaning c.make_watched-laid.result.0.shelf) r) c.in-Err.is c.make_watched-laid.ensures.works)
    (subst (λ r. IsUnmoved {T = ℕ} r ((c.make_watched-laid.result.0.core ≡ c.args.laid.core) × (c.make_watched-laid.result.0.shelf ≡ c.args.laid.shelf))) c.in-Err.is c.make_watched-laid.ensures.still)

pub returns-then-is_down_stop-clause-told : goal.returns-then-is_down_stop-clause-told
returns-then-is_down_stop-clause-told g c = λ told. c.make_watched-laid.ensures.told (c.crash.ensures.told told)

pub returns-in-Ok-clause-maps : goal.returns-in-Ok-clause-maps
returns-in-Ok-clause-maps g c = λ n note up.
    let is_rack = (g.met.R.Rack g.world.𝓛 g.world.𝓜 g.world.𝓡 ((λ s x. x), (λ x. x), (λ x. x), λ x. x)).rack in
    let racks = shade_rack g.R.Shelf.meaning is_rack in
    let works = (subst (λ r. MakesVolume c.args.name.now c.args.want.now c.args.laid.core (shade_meaning g.R.Shelf.meaning c.args.laid.shelf) c.make_watched-laid.result.0.core (shade_meaning g.R.Shelf.meaning c.make_watched-laid.result.0.shelf) r) c.in-Ok.is c.make_watched-laid.ensures.works) in
    up_maps AddMaps c.args.laid c.make_watched-laid.result.0 (works.leaves n note up.at).1.up (subst (λ r. AddsMaps (laid_parts c.args.laid) (shade_meaning g.R.Shelf.meaning c.args.laid.shelf) (laid_parts c.make_watched-laid.result.0) (shade_meaning g.R.Shelf.meaning c.make_watched-laid.result.0.shelf) r) c.in-Ok.is (c.make_watched-laid.ensures.maps (racks c.args.laid.shelf) (racks c.make_watched-laid.result.0.shelf)))

pub returns-then-is_down_stop-clause-maps : goal.returns-then-is_down_stop-clause-maps
returns-then-is_down_stop-clause-maps g c = λ n note up. (down_maps MapsLike c.args.laid c.crash.result c.crash.ensures.rests, quiet_down (StaysMapped (Up c.args.laid) (Down c.crash.result)) c.in-Err.stop (sym c.is_down_stop.ensures ∙ c.if-is_down_stop.true))

pub returns-else-is_down_stop-clause-maps : goal.returns-else-is_down_stop-clause-maps
returns-else-is_down_stop-clause-maps g c = λ n note up.
    let is_rack = (g.met.R.Rack g.world.𝓛 g.world.𝓜 g.world.𝓡 ((λ s x. x), (λ x. x), (λ x. x), λ x. x)).rack in
    let racks = shade_rack g.R.Shelf.meaning is_rack in
    let works = (subst (λ r. MakesVolume c.args.name.now c.args.want.now c.args.laid.core (shade_meaning g.R.Shelf.meaning c.args.laid.shelf) c.make_watched-laid.result.0.core (shade_meaning g.R.Shelf.meaning c.make_watched-laid.result.0.shelf) r) c.in-Err.is c.make_watched-laid.ensures.works) in
    let maps = (subst (λ r. AddsMaps (laid_parts c.args.laid) (shade_meaning g.R.Shelf.meaning c.args.laid.shelf) (laid_parts c.make_watched-laid.result.0) (shade_meaning g.R.Shelf.meaning c.make_watched-laid.result.0.shelf) r) c.in-Err.is (c.make_watched-laid.ensures.maps (racks c.args.laid.shelf) (racks c.make_watched-laid.result.0.shelf))) in
    (up_maps MapsLike c.args.laid c.make_watched-laid.result.0 (add_still n note c.args.want.now c.make_watched-laid.result.0.core (shade_meaning g.R.Shelf.meaning c.make_watched-laid.result.0.shelf) c.in-Err.stop (sym c.is_down_stop.ensures ∙ c.if-is_down_stop.false) (works.leaves n note up.at)) maps.0, quiet_map (PartsStay (laid_parts c.args.laid) (laid_parts c.make_watched-laid.result.0)) (StaysMapped (Up c.args.laid) (Up c.make_watched-laid.result.0)) c.in-Err.stop (stays_up c.args.laid c.make_watched-laid.result.0) maps.1)

pub returns-then-is_down-clause-volumes : goal.returns-then-is_down-clause-volumes
returns-then-is_down-clause-volumes g c = same_go (laid_seen c.args.laid)

pub returns-in-Ok-clause-volumes : goal.returns-in-Ok-clause-volumes
returns-in-Ok-clause-volumes g c = c.make_watched-laid.ensures.works.goes

pub returns-then-is_down_stop-clause-volumes : goal.returns-then-is_down_stop-clause-volumes
returns-then-is_down_stop-clause-volumes g c = fell_behind Nowhere c.args.laid c.make_watched-laid.result.0 c.crash.result c.make_watched-laid.ensures.works.goes c.crash.ensures.stopped c.crash.ensures.agreed c.crash.ensures.lacking

pub returns-else-is_down_stop-clause-volumes : goal.returns-else-is_down_stop-clause-volumes
returns-else-is_down_stop-clause-volumes g c = c.make_watched-laid.ensures.works.goes
