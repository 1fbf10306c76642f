-- A plex of a group that is up, below a replicated volume group, that is detached.
use Rattle.std.proofs.Common.{◌≡◌, ◌∙◌, false, subst, sym}
use Rattle.std.specs.Prelude.{OnOk}
use Rattle.vx_volume.specs.Plexes.{active}
use Rattle.vx_disk.specs.Disks.{Crashed}
use Rattle.vx_group.specs.Dets.{det_refusal}
use Rattle.vx_untold.specs.Shades.{shade_meaning, shade_rack}
use Rattle.vx_watched.proofs.SinceLemmas.{since_none, since_stop}
use Rattle.vx_grouped.specs.Watches.{PlexDets}
use Rattle.vx_grouped.proofs.CalledLemmas.{down_by_stop}
use Rattle.vx_grouped.proofs.SitePlexLemmas.{det_never_off}
use Rattle.vx_grouped.proofs.VolumeLemmas.{fell_behind, none_go, same_go}
use Rattle.vx_grouped.specs.Volumes.{laid_seen}
use Rattle.vx_disk.specs.Moves.{Nowhere}
use Rattle.vx_grouped.specs.PlainMaps.{DetsMaps, laid_parts, PartsStay}
use Rattle.vx_grouped.specs.SiteMaps.{DetMapsDone, DetMapsFailed, StaysMapped}
use Rattle.vx_grouped.proofs.PlexMapLemmas.{call_still}
use Rattle.vx_grouped.proofs.UpMapLemmas.{down_maps, up_maps}
use Rattle.vx_grouped.proofs.StayPartLemmas.{quiet_down, quiet_map, stays_up}
use Rattle.vx_grouped.specs.declared.group_site.GroupSite.TheVariants.{Up, Down}
use Rattle.vx_diskset.proofs.CallsBelow.{det_below_cut, det_below_done, det_below_up}
use Rattle.vx_diskset.proofs.over_plexes.det_over.Goals as goal

pub returns-then-is_down_stop-clause-called : goal.returns-then-is_down_stop-clause-called
returns-then-is_down_stop-clause-called g c = λ n note up.
    let is_rack = (g.met.R.Rack g.world.𝓛 g.world.𝓜 g.world.𝓡 ((λ s x. x), (λ x. x), (λ x. x), λ x. x)).rack in
    let racks = shade_rack g.R.Shelf.meaning is_rack in
    det_below_cut n note c.args.volume c.args.plex c.args.laid c.det_watched-laid.result.0 up c.det_watched-laid.ensures.since c.det_watched-laid.ensures.told racks 0xffff_ffff_ffff_ffff c.fell_idle-idle.result c.fell_idle-idle.ensures c.in-Err.stop (sym c.is_down_stop.ensures ∙ c.if-is_down_stop.true)
    (subst (λ r. PlexDets c.args.volume c.args.plex c.args.laid.core (shade_meaning g.R.Shelf.meaning c.args.laid.shelf) c.det_watched-laid.result.0.core (shade_meaning g.R.Shelf.meaning c.det_watched-laid.result.0.shelf) r) c.in-Err.is c.det_watched-laid.ensures.works)

pub returns-then-is_down_stop-clause-since : goal.returns-then-is_down_stop-clause-since
returns-then-is_down_stop-clause-since g c =
    since_stop (shade_meaning g.R.Shelf.meaning c.args.laid.shelf) (shade_meaning g.R.Shelf.meaning c.det_watched-laid.result.0.shelf) (shade_meaning g.R.Shelf.meaning c.fell_idle-idle.result.rack) (Crashed (shade_meaning g.R.Shelf.meaning c.det_watched-laid.result.0.shelf).size 0xffff_ffff_ffff_ffff) c.det_watched-laid.ensures.since
    (down_by_stop (Unit {0}) (shade_meaning g.R.Shelf.meaning c.args.laid.shelf) (shade_meaning g.R.Shelf.meaning c.det_watched-laid.result.0.shelf) (det_refusal c.args.laid.core.inner.config c.args.volume c.args.plex) c.in-Err.stop c.det_watched-laid.result.1 c.in-Err.is (sym c.is_down_stop.ensures ∙ c.if-is_down_stop.true) c.det_watched-laid.ensures.works.cause c.det_watched-laid.ensures.works.refused (det_never_off c.args.laid.core.inner.config c.args.volume c.args.plex))
    c.fell_idle-idle.ensures.stopped c.fell_idle-idle.ensures.disks

pub returns-in-Ok-clause-called : goal.returns-in-Ok-clause-called
returns-in-Ok-clause-called g c = λ n note up.
    let is_rack = (g.met.R.Rack g.world.𝓛 g.world.𝓜 g.world.𝓡 ((λ s x. x), (λ x. x), (λ x. x), λ x. x)).rack in
    let racks = shade_rack g.R.Shelf.meaning is_rack in
    det_below_done n note c.args.volume c.args.plex c.args.laid c.det_watched-laid.result.0 up c.det_watched-laid.ensures.since c.det_watched-laid.ensures.told racks
    (subst (λ r. PlexDets c.args.volume c.args.plex c.args.laid.core (shade_meaning g.R.Shelf.meaning c.args.laid.shelf) c.det_watched-laid.result.0.core (shade_meaning g.R.Shelf.meaning c.det_watched-laid.result.0.shelf) r) c.in-Ok.is c.det_watched-laid.ensures.works)

pub returns-else-is_down_stop-clause-called : goal.returns-else-is_down_stop-clause-called
returns-else-is_down_stop-clause-called g c = λ n note up.
    let is_rack = (g.met.R.Rack g.world.𝓛 g.world.𝓜 g.world.𝓡 ((λ s x. x), (λ x. x), (λ x. x), λ x. x)).rack in
    let racks = shade_rack g.R.Shelf.meaning is_rack in
    det_below_up n note c.args.volume c.args.plex c.args.laid c.det_watched-laid.result.0 up c.det_watched-laid.ensures.since c.det_watched-laid.ensures.told racks c.in-Err.stop (sym c.is_down_stop.ensures ∙ c.if-is_down_stop.false)
    (subst (λ r. PlexDets c.args.volume c.args.plex c.args.laid.core (shade_meaning g.R.Shelf.meaning c.args.laid.shelf) c.det_watched-laid.result.0.core (shade_meaning g.R.Shelf.meaning c.det_watched-laid.result.0.shelf) r) c.in-Err.is c.det_watched-laid.ensures.works)

pub returns-then-is_down_stop-clause-told : goal.returns-then-is_down_stop-clause-told
returns-then-is_down_stop-clause-told g c = λ told. c.det_watched-laid.ensures.told (c.fell_idle-idle.ensures.told told)

pub returns-in-Ok-clause-maps : goal.returns-in-Ok-clause-maps
returns-in-Ok-clause-maps g c = λ n note up.
    let is_rack = (g.met.R.Rack g.world.𝓛 g.world.𝓜 g.world.𝓡 ((λ s x. x), (λ x. x), (λ x. x), λ x. x)).rack in
    let racks = shade_rack g.R.Shelf.meaning is_rack in
    let works = (subst (λ r. PlexDets c.args.volume c.args.plex c.args.laid.core (shade_meaning g.R.Shelf.meaning c.args.laid.shelf) c.det_watched-laid.result.0.core (shade_meaning g.R.Shelf.meaning c.det_watched-laid.result.0.shelf) r) c.in-Ok.is c.det_watched-laid.ensures.works) in
    up_maps (DetMapsDone c.args.volume c.args.plex) c.args.laid c.det_watched-laid.result.0 (works.leaves n note up.at).1.up (subst (λ r. DetsMaps c.args.volume c.args.plex (laid_parts c.args.laid) (shade_meaning g.R.Shelf.meaning c.args.laid.shelf) (laid_parts c.det_watched-laid.result.0) (shade_meaning g.R.Shelf.meaning c.det_watched-laid.result.0.shelf) r) c.in-Ok.is (c.det_watched-laid.ensures.maps (racks c.args.laid.shelf) (racks c.det_watched-laid.result.0.shelf)))

pub returns-then-is_down_stop-clause-maps : goal.returns-then-is_down_stop-clause-maps
returns-then-is_down_stop-clause-maps g c = λ n note up. (down_maps (DetMapsFailed c.args.volume c.args.plex) c.args.laid c.fell_idle-idle.result c.fell_idle-idle.ensures.rests, quiet_down (StaysMapped (Up c.args.laid) (Down c.fell_idle-idle.result)) c.in-Err.stop (sym c.is_down_stop.ensures ∙ c.if-is_down_stop.true))

pub returns-else-is_down_stop-clause-maps : goal.returns-else-is_down_stop-clause-maps
returns-else-is_down_stop-clause-maps g c = λ n note up.
    let is_rack = (g.met.R.Rack g.world.𝓛 g.world.𝓜 g.world.𝓡 ((λ s x. x), (λ x. x), (λ x. x), λ x. x)).rack in
    let racks = shade_rack g.R.Shelf.meaning is_rack in
    let works = (subst (λ r. PlexDets c.args.volume c.args.plex c.args.laid.core (shade_meaning g.R.Shelf.meaning c.args.laid.shelf) c.det_watched-laid.result.0.core (shade_meaning g.R.Shelf.meaning c.det_watched-laid.result.0.shelf) r) c.in-Err.is c.det_watched-laid.ensures.works) in
    let maps = (subst (λ r. DetsMaps c.args.volume c.args.plex (laid_parts c.args.laid) (shade_meaning g.R.Shelf.meaning c.args.laid.shelf) (laid_parts c.det_watched-laid.result.0) (shade_meaning g.R.Shelf.meaning c.det_watched-laid.result.0.shelf) r) c.in-Err.is (c.det_watched-laid.ensures.maps (racks c.args.laid.shelf) (racks c.det_watched-laid.result.0.shelf))) in
    (up_maps (DetMapsFailed c.args.volume c.args.plex) c.args.laid c.det_watched-laid.result.0 (call_still (Unit {0}) n note c.det_watched-laid.result.0.core (shade_meaning g.R.Shelf.meaning c.det_watched-laid.result.0.shelf) c.in-Err.stop (sym c.is_down_stop.ensures ∙ c.if-is_down_stop.false) (works.leaves n note up.at)) maps.0, quiet_map (PartsStay (laid_parts c.args.laid) (laid_parts c.det_watched-laid.result.0)) (StaysMapped (Up c.args.laid) (Up c.det_watched-laid.result.0)) c.in-Err.stop (stays_up c.args.laid c.det_watched-laid.result.0) maps.1)

pub returns-then-is_down-clause-goes : goal.returns-then-is_down-clause-goes
returns-then-is_down-clause-goes g c = same_go (laid_seen c.args.laid)

pub returns-in-Ok-clause-goes : goal.returns-in-Ok-clause-goes
returns-in-Ok-clause-goes g c = none_go (laid_seen c.args.laid) (laid_seen c.det_watched-laid.result.0) c.det_watched-laid.ensures.works.goes

pub returns-else-is_down_stop-clause-goes : goal.returns-else-is_down_stop-clause-goes
returns-else-is_down_stop-clause-goes g c = none_go (laid_seen c.args.laid) (laid_seen c.det_watched-laid.result.0) c.det_watched-laid.ensures.works.goes

pub returns-then-is_down_stop-clause-goes : goal.returns-then-is_down_stop-clause-goes
returns-then-is_down_stop-clause-goes g c = record {
  mid = c.det_watched-laid.result.0;
  goes = none_go (laid_seen c.args.laid) (laid_seen c.det_watched-laid.result.0) c.det_watched-laid.ensures.works.goes;
  stopped = c.fell_idle-idle.ensures.stopped;
  lacking = c.fell_idle-idle.ensures.lacking;
}

pub returns-in-Ok-clause-refused : goal.returns-in-Ok-clause-refused
returns-in-Ok-clause-refused g c = λ n note why up is. sym c.in-Ok.is ∙ c.det_watched-laid.ensures.works.refused why is

pub returns-else-is_down_stop-clause-refused : goal.returns-else-is_down_stop-clause-refused
returns-else-is_down_stop-clause-refused g c = λ n note why up is. sym c.in-Err.is ∙ c.det_watched-laid.ensures.works.refused why is

pub returns-then-is_down_stop-clause-refused : goal.returns-then-is_down_stop-clause-refused
returns-then-is_down_stop-clause-refused g c = λ n note why up is. sym c.in-Err.is ∙ c.det_watched-laid.ensures.works.refused why is

pub returns-in-Ok-clause-off : goal.returns-in-Ok-clause-off
returns-in-Ok-clause-off g c = subst (λ r. OnOk r (active c.det_watched-laid.result.0.core.inner.config c.args.volume c.args.plex ≡ false)) c.in-Ok.is c.det_watched-laid.ensures.works.off

pub returns-in-Ok-clause-since : goal.returns-in-Ok-clause-since
returns-in-Ok-clause-since g c = c.det_watched-laid.ensures.since

pub returns-in-Ok-clause-told : goal.returns-in-Ok-clause-told
returns-in-Ok-clause-told g c = c.det_watched-laid.ensures.told

pub returns-else-is_down_stop-clause-since : goal.returns-else-is_down_stop-clause-since
returns-else-is_down_stop-clause-since g c = c.det_watched-laid.ensures.since

pub returns-else-is_down_stop-clause-told : goal.returns-else-is_down_stop-clause-told
returns-else-is_down_stop-clause-told g c = c.det_watched-laid.ensures.told

pub returns-else-is_down_stop-clause-off : goal.returns-else-is_down_stop-clause-off
returns-else-is_down_stop-clause-off g c = tt

pub returns-then-is_down_stop-clause-off : goal.returns-then-is_down_stop-clause-off
returns-then-is_down_stop-clause-off g c = tt

pub returns-then-is_down-clause-off : goal.returns-then-is_down-clause-off
returns-then-is_down-clause-off g c = tt

pub returns-then-is_down-clause-called : goal.returns-then-is_down-clause-called
returns-then-is_down-clause-called g c = λ n note up. absurd (up.at.up (sym c.is_down.ensures ∙ c.if-is_down.true))

pub returns-then-is_down-clause-maps : goal.returns-then-is_down-clause-maps
returns-then-is_down-clause-maps g c = λ n note up. absurd (up.at.up (sym c.is_down.ensures ∙ c.if-is_down.true))

pub returns-then-is_down-clause-refused : goal.returns-then-is_down-clause-refused
returns-then-is_down-clause-refused g c = λ n note why up is. absurd (up.at.up (sym c.is_down.ensures ∙ c.if-is_down.true))

pub returns-then-is_down-clause-since : goal.returns-then-is_down-clause-since
returns-then-is_down-clause-since g c = since_none (shade_meaning g.R.Shelf.meaning c.args.laid.shelf)

pub returns-then-is_down-clause-told : goal.returns-then-is_down-clause-told
returns-then-is_down-clause-told g c = λ told. told
