-- A plex of a group that is up, below a replicated volume group, that is attached.
use Rattle.std.proofs.Common.{◌∙◌, ℕ, subst, sym}
use Rattle.std.specs.Prelude.{IfOk, OnOk}
use Rattle.vx_disk.specs.Disks.{Crashed}
use Rattle.vx_group.specs.Attaches.{IsAttached, att_refusal}
use Rattle.vx_untold.specs.Shades.{shade_meaning, shade_rack}
use Rattle.vx_watched.proofs.SinceLemmas.{since_none, since_stop}
use Rattle.vx_grouped.specs.Copied.{CopiesRegions}
use Rattle.vx_grouped.specs.Watches.{PlexAtts}
use Rattle.vx_grouped.proofs.CalledLemmas.{down_by_stop}
use Rattle.vx_grouped.proofs.SitePlexLemmas.{att_never_off}
use Rattle.vx_grouped.proofs.VolumeLemmas.{fell_behind, none_go, same_go}
use Rattle.vx_grouped.specs.Volumes.{laid_seen}
use Rattle.vx_disk.specs.Moves.{Nowhere}
use Rattle.vx_grouped.specs.PlainMaps.{AttsMaps, laid_parts, PartsStay}
use Rattle.vx_grouped.specs.SiteMaps.{MapsLike, AttMaps, StaysMapped}
use Rattle.vx_grouped.proofs.PlexMapLemmas.{call_still}
use Rattle.vx_grouped.proofs.UpMapLemmas.{copies_up, down_maps, up_maps}
use Rattle.vx_grouped.proofs.StayPartLemmas.{quiet_down, quiet_map, stays_up}
use Rattle.vx_grouped.specs.declared.group_site.GroupSite.TheVariants.{Up, Down}
use Rattle.vx_diskset.proofs.CallsBelow.{att_below_cut, att_below_done, att_below_up}
use Rattle.vx_diskset.proofs.over_plexes.att_over.Goals as goal

pub returns-then-is_down_stop-clause-called : goal.returns-then-is_down_stop-clause-called
returns-then-is_down_stop-clause-called g c = λ n note up.
    let is_rack = (g.met.R.Rack g.world.𝓛 g.world.𝓜 g.world.𝓡 ((λ s x. x), (λ x. x), (λ x. x), λ x. x)).rack in
    let racks = shade_rack g.R.Shelf.meaning is_rack in
    att_below_cut n note c.args.volume c.args.plex c.args.laid c.att_watched-laid.result.0 up c.att_watched-laid.ensures.since c.att_watched-laid.ensures.told racks 0xffff_ffff_ffff_ffff c.fell_idle-idle.result c.fell_idle-idle.ensures c.in-Err.stop (sym c.is_down_stop.ensures ∙ c.if-is_down_stop.true)
    (subst (λ r. PlexAtts c.args.volume c.args.plex c.args.laid.core (shade_meaning g.R.Shelf.meaning c.args.laid.shelf) c.att_watched-laid.result.0.core (shade_meaning g.R.Shelf.meaning c.att_watched-laid.result.0.shelf) r) c.in-Err.is c.att_watched-laid.ensures.works)

pub returns-then-is_down_stop-clause-since : goal.returns-then-is_down_stop-clause-since
returns-then-is_down_stop-clause-since g c =
    since_stop (shade_meaning g.R.Shelf.meaning c.args.laid.shelf) (shade_meaning g.R.Shelf.meaning c.att_watched-laid.result.0.shelf) (shade_meaning g.R.Shelf.meaning c.fell_idle-idle.result.rack) (Crashed (shade_meaning g.R.Shelf.meaning c.att_watched-laid.result.0.shelf).size 0xffff_ffff_ffff_ffff) c.att_watched-laid.ensures.since
    (down_by_stop ℕ (shade_meaning g.R.Shelf.meaning c.args.laid.shelf) (shade_meaning g.R.Shelf.meaning c.att_watched-laid.result.0.shelf) (att_refusal c.args.laid.core.inner.config c.args.volume c.args.plex) c.in-Err.stop c.att_watched-laid.result.1 c.in-Err.is (sym c.is_down_stop.ensures ∙ c.if-is_down_stop.true) c.att_watched-laid.ensures.works.cause c.att_watched-laid.ensures.works.refused (att_never_off c.args.laid.core.inner.config c.args.volume c.args.plex))
    c.fell_idle-idle.ensures.stopped c.fell_idle-idle.ensures.disks

pub returns-in-Ok-clause-called : goal.returns-in-Ok-clause-called
returns-in-Ok-clause-called g c = λ n note up.
    let is_rack = (g.met.R.Rack g.world.𝓛 g.world.𝓜 g.world.𝓡 ((λ s x. x), (λ x. x), (λ x. x), λ x. x)).rack in
    let racks = shade_rack g.R.Shelf.meaning is_rack in
    att_below_done n note c.args.volume c.args.plex c.args.laid c.att_watched-laid.result.0 up c.att_watched-laid.ensures.since c.att_watched-laid.ensures.told racks c.in-Ok.count
    (subst (λ r. PlexAtts c.args.volume c.args.plex c.args.laid.core (shade_meaning g.R.Shelf.meaning c.args.laid.shelf) c.att_watched-laid.result.0.core (shade_meaning g.R.Shelf.meaning c.att_watched-laid.result.0.shelf) r) c.in-Ok.is c.att_watched-laid.ensures.works)

pub returns-else-is_down_stop-clause-called : goal.returns-else-is_down_stop-clause-called
returns-else-is_down_stop-clause-called g c = λ n note up.
    let is_rack = (g.met.R.Rack g.world.𝓛 g.world.𝓜 g.world.𝓡 ((λ s x. x), (λ x. x), (λ x. x), λ x. x)).rack in
    let racks = shade_rack g.R.Shelf.meaning is_rack in
    att_below_up n note c.args.volume c.args.plex c.args.laid c.att_watched-laid.result.0 up c.att_watched-laid.ensures.since c.att_watched-laid.ensures.told racks c.in-Err.stop (sym c.is_down_stop.ensures ∙ c.if-is_down_stop.false)
    (subst (λ r. PlexAtts c.args.volume c.args.plex c.args.laid.core (shade_meaning g.R.Shelf.meaning c.args.laid.shelf) c.att_watched-laid.result.0.core (shade_meaning g.R.Shelf.meaning c.att_watched-laid.result.0.shelf) r) c.in-Err.is c.att_watched-laid.ensures.works)

pub returns-then-is_down_stop-clause-told : goal.returns-then-is_down_stop-clause-told
returns-then-is_down_stop-clause-told g c = λ told. c.att_watched-laid.ensures.told (c.fell_idle-idle.ensures.told told)

pub returns-in-Ok-clause-maps : goal.returns-in-Ok-clause-maps
returns-in-Ok-clause-maps g c = λ n note up.
    let is_rack = (g.met.R.Rack g.world.𝓛 g.world.𝓜 g.world.𝓡 ((λ s x. x), (λ x. x), (λ x. x), λ x. x)).rack in
    let racks = shade_rack g.R.Shelf.meaning is_rack in
    let works = (subst (λ r. PlexAtts c.args.volume c.args.plex c.args.laid.core (shade_meaning g.R.Shelf.meaning c.args.laid.shelf) c.att_watched-laid.result.0.core (shade_meaning g.R.Shelf.meaning c.att_watched-laid.result.0.shelf) r) c.in-Ok.is c.att_watched-laid.ensures.works) in
    let maps = (subst (λ r. AttsMaps c.args.volume c.args.plex (laid_parts c.args.laid) (shade_meaning g.R.Shelf.meaning c.args.laid.shelf) (laid_parts c.att_watched-laid.result.0) (shade_meaning g.R.Shelf.meaning c.att_watched-laid.result.0.shelf) r) c.in-Ok.is (c.att_watched-laid.ensures.maps (racks c.args.laid.shelf) (racks c.att_watched-laid.result.0.shelf))) in
    (up_maps (AttMaps c.args.volume c.args.plex) c.args.laid c.att_watched-laid.result.0 (works.leaves n note up.at).1.up maps.0, copies_up c.args.laid c.args.volume c.args.plex c.in-Ok.count maps.1)

pub returns-then-is_down_stop-clause-maps : goal.returns-then-is_down_stop-clause-maps
returns-then-is_down_stop-clause-maps g c = λ n note up. (down_maps MapsLike c.args.laid c.fell_idle-idle.result c.fell_idle-idle.ensures.rests, quiet_down (StaysMapped (Up c.args.laid) (Down c.fell_idle-idle.result)) c.in-Err.stop (sym c.is_down_stop.ensures ∙ c.if-is_down_stop.true))

pub returns-else-is_down_stop-clause-maps : goal.returns-else-is_down_stop-clause-maps
returns-else-is_down_stop-clause-maps g c = λ n note up.
    let is_rack = (g.met.R.Rack g.world.𝓛 g.world.𝓜 g.world.𝓡 ((λ s x. x), (λ x. x), (λ x. x), λ x. x)).rack in
    let racks = shade_rack g.R.Shelf.meaning is_rack in
    let works = (subst (λ r. PlexAtts c.args.volume c.args.plex c.args.laid.core (shade_meaning g.R.Shelf.meaning c.args.laid.shelf) c.att_watched-laid.result.0.core (shade_meaning g.R.Shelf.meaning c.att_watched-laid.result.0.shelf) r) c.in-Err.is c.att_watched-laid.ensures.works) in
    let maps = (subst (λ r. AttsMaps c.args.volume c.args.plex (laid_parts c.args.laid) (shade_meaning g.R.Shelf.meaning c.args.laid.shelf) (laid_parts c.att_watched-laid.result.0) (shade_meaning g.R.Shelf.meaning c.att_watched-laid.result.0.shelf) r) c.in-Err.is (c.att_watched-laid.ensures.maps (racks c.args.laid.shelf) (racks c.att_watched-laid.result.0.shelf))) in
    (up_maps MapsLike c.args.laid c.att_watched-laid.result.0 (call_still ℕ n note c.att_watched-laid.result.0.core (shade_meaning g.R.Shelf.meaning c.att_watched-laid.result.0.shelf) c.in-Err.stop (sym c.is_down_stop.ensures ∙ c.if-is_down_stop.false) (works.leaves n note up.at)) maps.0, quiet_map (PartsStay (laid_parts c.args.laid) (laid_parts c.att_watched-laid.result.0)) (StaysMapped (Up c.args.laid) (Up c.att_watched-laid.result.0)) c.in-Err.stop (stays_up c.args.laid c.att_watched-laid.result.0) maps.1)

pub returns-then-is_down-clause-goes : goal.returns-then-is_down-clause-goes
returns-then-is_down-clause-goes g c = same_go (laid_seen c.args.laid)

pub returns-in-Ok-clause-goes : goal.returns-in-Ok-clause-goes
returns-in-Ok-clause-goes g c = none_go (laid_seen c.args.laid) (laid_seen c.att_watched-laid.result.0) c.att_watched-laid.ensures.works.goes

pub returns-else-is_down_stop-clause-goes : goal.returns-else-is_down_stop-clause-goes
returns-else-is_down_stop-clause-goes g c = none_go (laid_seen c.args.laid) (laid_seen c.att_watched-laid.result.0) c.att_watched-laid.ensures.works.goes

pub returns-then-is_down_stop-clause-goes : goal.returns-then-is_down_stop-clause-goes
returns-then-is_down_stop-clause-goes g c = record {
  mid = c.att_watched-laid.result.0;
  goes = none_go (laid_seen c.args.laid) (laid_seen c.att_watched-laid.result.0) c.att_watched-laid.ensures.works.goes;
  stopped = c.fell_idle-idle.ensures.stopped;
  lacking = c.fell_idle-idle.ensures.lacking;
}

pub returns-in-Ok-clause-refused : goal.returns-in-Ok-clause-refused
returns-in-Ok-clause-refused g c = λ n note why up is. sym c.in-Ok.is ∙ c.att_watched-laid.ensures.works.refused why is

pub returns-in-Ok-clause-already : goal.returns-in-Ok-clause-already
returns-in-Ok-clause-already g c = λ n note up none on. sym c.in-Ok.is ∙ c.att_watched-laid.ensures.works.already none on

pub returns-else-is_down_stop-clause-refused : goal.returns-else-is_down_stop-clause-refused
returns-else-is_down_stop-clause-refused g c = λ n note why up is. sym c.in-Err.is ∙ c.att_watched-laid.ensures.works.refused why is

pub returns-else-is_down_stop-clause-already : goal.returns-else-is_down_stop-clause-already
returns-else-is_down_stop-clause-already g c = λ n note up none on. sym c.in-Err.is ∙ c.att_watched-laid.ensures.works.already none on

pub returns-then-is_down_stop-clause-refused : goal.returns-then-is_down_stop-clause-refused
returns-then-is_down_stop-clause-refused g c = λ n note why up is. sym c.in-Err.is ∙ c.att_watched-laid.ensures.works.refused why is

pub returns-then-is_down_stop-clause-already : goal.returns-then-is_down_stop-clause-already
returns-then-is_down_stop-clause-already g c = λ n note up none on. sym c.in-Err.is ∙ c.att_watched-laid.ensures.works.already none on

pub returns-in-Ok-clause-count : goal.returns-in-Ok-clause-count
returns-in-Ok-clause-count g c = λ off. subst (λ r. IfOk r (CopiesRegions c.args.laid.core.inner.config c.args.volume)) c.in-Ok.is (c.att_watched-laid.ensures.works.count off)

pub returns-in-Ok-clause-since : goal.returns-in-Ok-clause-since
returns-in-Ok-clause-since g c = c.att_watched-laid.ensures.since

pub returns-in-Ok-clause-told : goal.returns-in-Ok-clause-told
returns-in-Ok-clause-told g c = c.att_watched-laid.ensures.told

pub returns-else-is_down_stop-clause-since : goal.returns-else-is_down_stop-clause-since
returns-else-is_down_stop-clause-since g c = c.att_watched-laid.ensures.since

pub returns-else-is_down_stop-clause-told : goal.returns-else-is_down_stop-clause-told
returns-else-is_down_stop-clause-told g c = c.att_watched-laid.ensures.told

pub returns-else-is_down_stop-clause-count : goal.returns-else-is_down_stop-clause-count
returns-else-is_down_stop-clause-count g c = λ off. tt

pub returns-else-is_down_stop-clause-on : goal.returns-else-is_down_stop-clause-on
returns-else-is_down_stop-clause-on g c = λ off. tt

pub returns-then-is_down_stop-clause-count : goal.returns-then-is_down_stop-clause-count
returns-then-is_down_stop-clause-count g c = λ off. tt

pub returns-then-is_down_stop-clause-on : goal.returns-then-is_down_stop-clause-on
returns-then-is_down_stop-clause-on g c = λ off. tt

pub returns-then-is_down-clause-count : goal.returns-then-is_down-clause-count
returns-then-is_down-clause-count g c = λ off. tt

pub returns-then-is_down-clause-on : goal.returns-then-is_down-clause-on
returns-then-is_down-clause-on g c = λ off. tt

pub returns-then-is_down-clause-called : goal.returns-then-is_down-clause-called
returns-then-is_down-clause-called g c = λ n note up. absurd (up.at.up (sym c.is_down.ensures ∙ c.if-is_down.true))

pub returns-then-is_down-clause-maps : goal.returns-then-is_down-clause-maps
returns-then-is_down-clause-maps g c = λ n note up. absurd (up.at.up (sym c.is_down.ensures ∙ c.if-is_down.true))

pub returns-then-is_down-clause-refused : goal.returns-then-is_down-clause-refused
returns-then-is_down-clause-refused g c = λ n note why up is. absurd (up.at.up (sym c.is_down.ensures ∙ c.if-is_down.true))

pub returns-then-is_down-clause-already : goal.returns-then-is_down-clause-already
returns-then-is_down-clause-already g c = λ n note up none on. absurd (up.at.up (sym c.is_down.ensures ∙ c.if-is_down.true))

pub returns-then-is_down-clause-since : goal.returns-then-is_down-clause-since
returns-then-is_down-clause-since g c = since_none (shade_meaning g.R.Shelf.meaning c.args.laid.shelf)

pub returns-then-is_down-clause-told : goal.returns-then-is_down-clause-told
returns-then-is_down-clause-told g c = λ told. told

pub returns-in-Ok-clause-on : goal.returns-in-Ok-clause-on
returns-in-Ok-clause-on g c = λ off.
    let it : IsAttached c.args.volume c.args.plex c.att_watched-laid.result.0.core.inner.config (shade_meaning g.R.Shelf.meaning c.att_watched-laid.result.0.shelf) = subst (λ r. OnOk r (IsAttached c.args.volume c.args.plex c.att_watched-laid.result.0.core.inner.config (shade_meaning g.R.Shelf.meaning c.att_watched-laid.result.0.shelf))) c.in-Ok.is (c.att_watched-laid.ensures.works.attached off) in
    it.is_on
