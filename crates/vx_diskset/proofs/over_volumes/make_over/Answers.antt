-- A volume that is made in a group that is up, below a replicated volume group.
use Rattle.std.proofs.Common.{◌≡◌, ◌∙◌, ℕ, subst, sym}
use Rattle.vx_disk.specs.Disks.{Crashed}
use Rattle.vx_untold.specs.Shades.{shade_meaning, shade_rack}
use Rattle.vx_watched.proofs.SinceLemmas.{since_none, since_stop}
use Rattle.vx_grouped.specs.Added.{IsUnmoved}
use Rattle.vx_grouped.specs.SiteAdds.{MakesVolume}
use Rattle.vx_grouped.proofs.SiteAddLemmas.{made_volume, make_down}
use Rattle.vx_grouped.specs.Volumes.{laid_seen}
use Rattle.vx_grouped.proofs.VolumeLemmas.{same_go}
use Rattle.vx_grouped.specs.PlainMaps.{AddsMaps, PartsStay, laid_parts}
use Rattle.vx_grouped.specs.SiteMaps.{AddMaps, MapsLike, StaysMapped}
use Rattle.vx_grouped.proofs.AddMapLemmas.{add_still}
use Rattle.vx_grouped.proofs.UpMapLemmas.{down_maps, up_maps}
use Rattle.vx_grouped.proofs.StayPartLemmas.{quiet_down, quiet_map, stays_up}
use Rattle.vx_grouped.specs.declared.group_site.GroupSite.TheVariants.{Down, Up}
use Rattle.vx_diskset.specs.OverVolumes.{StillSite}
use Rattle.vx_diskset.proofs.MakesBelow.{off_unmoved, vol_below_cut, vol_below_done, vol_below_up}
use Rattle.vx_diskset.proofs.over_volumes.make_over.Goals as goal

pub returns-then-is_down_stop-clause-made : goal.returns-then-is_down_stop-clause-made
returns-then-is_down_stop-clause-made g c = λ n note up.
    let is_rack = (g.met.R.Rack g.world.𝓛 g.world.𝓜 g.world.𝓡 ((λ s x. x), (λ x. x), (λ x. x), λ x. x)).rack in
    let racks = shade_rack g.R.Shelf.meaning is_rack in
    vol_below_cut n note c.args.name.now c.args.want.now c.args.laid c.make_watched-laid.result.0 up c.make_watched-laid.ensures.since c.make_watched-laid.ensures.told c.spelled.ensures racks 0xffff_ffff_ffff_ffff c.fell_idle-idle.result c.fell_idle-idle.ensures c.in-Err.stop (sym c.is_down_stop.ensures ∙ c.if-is_down_stop.true)
    (subst (λ r. MakesVolume c.args.name.now c.args.want.now c.args.laid.core (shade_meaning g.R.Shelf.meaning c.args.laid.shelf) c.make_watched-laid.result.0.core (shade_meaning g.R.Shelf.meaning c.make_watched-laid.result.0.shelf) r) c.in-Err.is c.make_watched-laid.ensures.works)

pub returns-in-Ok-clause-made : goal.returns-in-Ok-clause-made
returns-in-Ok-clause-made g c = λ n note up.
    let is_rack = (g.met.R.Rack g.world.𝓛 g.world.𝓜 g.world.𝓡 ((λ s x. x), (λ x. x), (λ x. x), λ x. x)).rack in
    let racks = shade_rack g.R.Shelf.meaning is_rack in
    vol_below_done n note c.args.name.now c.args.want.now c.args.laid c.make_watched-laid.result.0 up c.make_watched-laid.ensures.since c.make_watched-laid.ensures.told c.spelled.ensures racks c.in-Ok.vol
    (subst (λ r. MakesVolume c.args.name.now c.args.want.now c.args.laid.core (shade_meaning g.R.Shelf.meaning c.args.laid.shelf) c.make_watched-laid.result.0.core (shade_meaning g.R.Shelf.meaning c.make_watched-laid.result.0.shelf) r) c.in-Ok.is c.make_watched-laid.ensures.works)

pub returns-else-is_down_stop-clause-made : goal.returns-else-is_down_stop-clause-made
returns-else-is_down_stop-clause-made g c = λ n note up.
    let is_rack = (g.met.R.Rack g.world.𝓛 g.world.𝓜 g.world.𝓡 ((λ s x. x), (λ x. x), (λ x. x), λ x. x)).rack in
    let racks = shade_rack g.R.Shelf.meaning is_rack in
    vol_below_up n note c.args.name.now c.args.want.now c.args.laid c.make_watched-laid.result.0 up c.make_watched-laid.ensures.since c.make_watched-laid.ensures.told c.spelled.ensures racks c.in-Err.stop (sym c.is_down_stop.ensures ∙ c.if-is_down_stop.false)
    (subst (λ r. MakesVolume c.args.name.now c.args.want.now c.args.laid.core (shade_meaning g.R.Shelf.meaning c.args.laid.shelf) c.make_watched-laid.result.0.core (shade_meaning g.R.Shelf.meaning c.make_watched-laid.result.0.shelf) r) c.in-Err.is c.make_watched-laid.ensures.works)
    (subst (λ r. IsUnmoved {T = ℕ} r ((c.make_watched-laid.result.0.core ≡ c.args.laid.core) × (c.make_watched-laid.result.0.shelf ≡ c.args.laid.shelf))) c.in-Err.is c.make_watched-laid.ensures.still)

pub returns-then-is_down-clause-made : goal.returns-then-is_down-clause-made
returns-then-is_down-clause-made g c = λ n note up. absurd (up.at.up (sym c.is_down.ensures ∙ c.if-is_down.true))

pub returns-in-Ok-clause-maps : goal.returns-in-Ok-clause-maps
returns-in-Ok-clause-maps g c = λ n note up.
    let is_rack = (g.met.R.Rack g.world.𝓛 g.world.𝓜 g.world.𝓡 ((λ s x. x), (λ x. x), (λ x. x), λ x. x)).rack in
    let racks = shade_rack g.R.Shelf.meaning is_rack in
    let works = (subst (λ r. MakesVolume c.args.name.now c.args.want.now c.args.laid.core (shade_meaning g.R.Shelf.meaning c.args.laid.shelf) c.make_watched-laid.result.0.core (shade_meaning g.R.Shelf.meaning c.make_watched-laid.result.0.shelf) r) c.in-Ok.is c.make_watched-laid.ensures.works) in
    up_maps AddMaps c.args.laid c.make_watched-laid.result.0 (works.leaves n note up.at).1.up (subst (λ r. AddsMaps (laid_parts c.args.laid) (shade_meaning g.R.Shelf.meaning c.args.laid.shelf) (laid_parts c.make_watched-laid.result.0) (shade_meaning g.R.Shelf.meaning c.make_watched-laid.result.0.shelf) r) c.in-Ok.is (c.make_watched-laid.ensures.maps (racks c.args.laid.shelf) (racks c.make_watched-laid.result.0.shelf)))

pub returns-then-is_down_stop-clause-maps : goal.returns-then-is_down_stop-clause-maps
returns-then-is_down_stop-clause-maps g c = λ n note up. (down_maps MapsLike c.args.laid c.fell_idle-idle.result c.fell_idle-idle.ensures.rests, quiet_down (StaysMapped (Up c.args.laid) (Down c.fell_idle-idle.result)) c.in-Err.stop (sym c.is_down_stop.ensures ∙ c.if-is_down_stop.true))

pub returns-else-is_down_stop-clause-maps : goal.returns-else-is_down_stop-clause-maps
returns-else-is_down_stop-clause-maps g c = λ n note up.
    let is_rack = (g.met.R.Rack g.world.𝓛 g.world.𝓜 g.world.𝓡 ((λ s x. x), (λ x. x), (λ x. x), λ x. x)).rack in
    let racks = shade_rack g.R.Shelf.meaning is_rack in
    let works = (subst (λ r. MakesVolume c.args.name.now c.args.want.now c.args.laid.core (shade_meaning g.R.Shelf.meaning c.args.laid.shelf) c.make_watched-laid.result.0.core (shade_meaning g.R.Shelf.meaning c.make_watched-laid.result.0.shelf) r) c.in-Err.is c.make_watched-laid.ensures.works) in
    let maps = (subst (λ r. AddsMaps (laid_parts c.args.laid) (shade_meaning g.R.Shelf.meaning c.args.laid.shelf) (laid_parts c.make_watched-laid.result.0) (shade_meaning g.R.Shelf.meaning c.make_watched-laid.result.0.shelf) r) c.in-Err.is (c.make_watched-laid.ensures.maps (racks c.args.laid.shelf) (racks c.make_watched-laid.result.0.shelf))) in
    (up_maps MapsLike c.args.laid c.make_watched-laid.result.0 (add_still n note c.args.want.now c.make_watched-laid.result.0.core (shade_meaning g.R.Shelf.meaning c.make_watched-laid.result.0.shelf) c.in-Err.stop (sym c.is_down_stop.ensures ∙ c.if-is_down_stop.false) (works.leaves n note up.at)) maps.0, quiet_map (PartsStay (laid_parts c.args.laid) (laid_parts c.make_watched-laid.result.0)) (StaysMapped (Up c.args.laid) (Up c.make_watched-laid.result.0)) c.in-Err.stop (stays_up c.args.laid c.make_watched-laid.result.0) maps.1)

pub returns-then-is_down-clause-maps : goal.returns-then-is_down-clause-maps
returns-then-is_down-clause-maps g c = λ n note up. absurd (up.at.up (sym c.is_down.ensures ∙ c.if-is_down.true))

pub returns-in-Ok-clause-refused : goal.returns-in-Ok-clause-refused
returns-in-Ok-clause-refused g c = λ n note why up is. sym c.in-Ok.is ∙ c.make_watched-laid.ensures.works.refused why is

pub returns-then-is_down_stop-clause-refused : goal.returns-then-is_down_stop-clause-refused
returns-then-is_down_stop-clause-refused g c = λ n note why up is. sym c.in-Err.is ∙ c.make_watched-laid.ensures.works.refused why is

pub returns-else-is_down_stop-clause-refused : goal.returns-else-is_down_stop-clause-refused
returns-else-is_down_stop-clause-refused g c = λ n note why up is. sym c.in-Err.is ∙ c.make_watched-laid.ensures.works.refused why is

pub returns-then-is_down-clause-refused : goal.returns-then-is_down-clause-refused
returns-then-is_down-clause-refused g c = λ n note why up is. absurd (up.at.up (sym c.is_down.ensures ∙ c.if-is_down.true))

pub returns-in-Ok-clause-volume : goal.returns-in-Ok-clause-volume
returns-in-Ok-clause-volume g c = λ n note up. made_volume c.args.name.now c.args.want.now c.args.laid.core c.make_watched-laid.result.0.core (shade_meaning g.R.Shelf.meaning c.args.laid.shelf) (shade_meaning g.R.Shelf.meaning c.make_watched-laid.result.0.shelf) c.make_watched-laid.result.1 c.make_watched-laid.ensures.works c.in-Ok.vol c.in-Ok.is

pub returns-then-is_down_stop-clause-volume : goal.returns-then-is_down_stop-clause-volume
returns-then-is_down_stop-clause-volume g c = λ n note up. tt

pub returns-else-is_down_stop-clause-volume : goal.returns-else-is_down_stop-clause-volume
returns-else-is_down_stop-clause-volume g c = λ n note up. tt

pub returns-then-is_down-clause-volume : goal.returns-then-is_down-clause-volume
returns-then-is_down-clause-volume g c = λ n note up. tt

pub returns-in-Ok-clause-still : goal.returns-in-Ok-clause-still
returns-in-Ok-clause-still g c = tt

pub returns-then-is_down_stop-clause-still : goal.returns-then-is_down_stop-clause-still
returns-then-is_down_stop-clause-still g c = off_unmoved (StillSite (Up c.args.laid) (Down c.fell_idle-idle.result)) c.in-Err.stop (sym c.is_down_stop.ensures ∙ c.if-is_down_stop.true)

pub returns-else-is_down_stop-clause-still : goal.returns-else-is_down_stop-clause-still
returns-else-is_down_stop-clause-still g c = subst (λ r. IsUnmoved {T = ℕ} r ((c.make_watched-laid.result.0.core ≡ c.args.laid.core) × (c.make_watched-laid.result.0.shelf ≡ c.args.laid.shelf))) c.in-Err.is c.make_watched-laid.ensures.still

pub returns-then-is_down-clause-still : goal.returns-then-is_down-clause-still
returns-then-is_down-clause-still g c = tt

pub returns-then-is_down-clause-goes : goal.returns-then-is_down-clause-goes
returns-then-is_down-clause-goes g c = same_go (laid_seen c.args.laid)

pub returns-in-Ok-clause-goes : goal.returns-in-Ok-clause-goes
returns-in-Ok-clause-goes g c = c.make_watched-laid.ensures.works.goes

pub returns-else-is_down_stop-clause-goes : goal.returns-else-is_down_stop-clause-goes
returns-else-is_down_stop-clause-goes g c = c.make_watched-laid.ensures.works.goes

pub returns-then-is_down_stop-clause-goes : goal.returns-then-is_down_stop-clause-goes
returns-then-is_down_stop-clause-goes g c = record {
  mid = c.make_watched-laid.result.0;
  goes = c.make_watched-laid.ensures.works.goes;
  stopped = c.fell_idle-idle.ensures.stopped;
  lacking = c.fell_idle-idle.ensures.lacking;
}

pub returns-then-is_down_stop-clause-since : goal.returns-then-is_down_stop-clause-since
returns-then-is_down_stop-clause-since g c =
    since_stop (shade_meaning g.R.Shelf.meaning c.args.laid.shelf) (shade_meaning g.R.Shelf.meaning c.make_watched-laid.result.0.shelf) (shade_meaning g.R.Shelf.meaning c.fell_idle-idle.result.rack) (Crashed (shade_meaning g.R.Shelf.meaning c.make_watched-laid.result.0.shelf).size 0xffff_ffff_ffff_ffff) c.make_watched-laid.ensures.since
    (make_down c.args.name.now c.args.want.now c.args.laid.core c.make_watched-laid.result.0.core (shade_meaning g.R.Shelf.meaning c.args.laid.shelf) (shade_meaning g.R.Shelf.meaning c.make_watched-laid.result.0.shelf) c.make_watched-laid.result.1 c.make_watched-laid.ensures.works c.in-Err.stop c.in-Err.is (sym c.is_down_stop.ensures ∙ c.if-is_down_stop.true)) c.fell_idle-idle.ensures.stopped c.fell_idle-idle.ensures.disks

pub returns-in-Ok-clause-since : goal.returns-in-Ok-clause-since
returns-in-Ok-clause-since g c = c.make_watched-laid.ensures.since

pub returns-in-Ok-clause-told : goal.returns-in-Ok-clause-told
returns-in-Ok-clause-told g c = c.make_watched-laid.ensures.told

pub returns-else-is_down_stop-clause-since : goal.returns-else-is_down_stop-clause-since
returns-else-is_down_stop-clause-since g c = c.make_watched-laid.ensures.since

pub returns-else-is_down_stop-clause-told : goal.returns-else-is_down_stop-clause-told
returns-else-is_down_stop-clause-told g c = c.make_watched-laid.ensures.told

pub returns-then-is_down_stop-clause-told : goal.returns-then-is_down_stop-clause-told
returns-then-is_down_stop-clause-told g c = λ told. c.make_watched-laid.ensures.told (c.fell_idle-idle.ensures.told told)

pub returns-then-is_down-clause-since : goal.returns-then-is_down-clause-since
returns-then-is_down-clause-since g c = since_none (shade_meaning g.R.Shelf.meaning c.args.laid.shelf)

pub returns-then-is_down-clause-told : goal.returns-then-is_down-clause-told
returns-then-is_down-clause-told g c = λ told. told
