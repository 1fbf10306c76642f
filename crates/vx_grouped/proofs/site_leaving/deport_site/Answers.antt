-- A site's group that is deported: what it leaves of the site and of its disks.
use Rattle.std.proofs.Common.{◌∙◌, Option, sym, subst}
use Rattle.vx_disk.specs.Disks.{Crashed}
use Rattle.vx_disk.specs.Moves.{Nowhere}
use Rattle.vx_group.specs.Deports.{DeportedBy}
use Rattle.vx_group.specs.Holding.{wide}
use Rattle.vx_logimport.specs.declared.rested.Rested.{Rested}
use Rattle.vx_untold.specs.Shades.{rack_of, shade_meaning, shade_rack}
use Rattle.vx_watched.specs.Since.{CalledSince}
use Rattle.vx_watched.specs.Traces.{TellsLess}
use Rattle.vx_watched.proofs.SinceLemmas.{since_stop}
use Rattle.vx_grouped.specs.Volumes.{laid_seen}
use Rattle.vx_grouped.proofs.VolumeLemmas.{fell_behind, none_go, same_go}
use Rattle.vx_grouped.proofs.GivenUpLemmas.{rest_tells}
use Rattle.vx_grouped.specs.PlainMaps.{PartsLeft, laid_parts, PartsStay}
use Rattle.vx_grouped.specs.SiteMaps.{MapsLike, StaysMapped}
use Rattle.vx_grouped.proofs.LeavingLemmas.{deport_cut, deport_down, deport_up, deported_from}
use Rattle.vx_grouped.proofs.PlexMapLemmas.{call_still}
use Rattle.vx_grouped.proofs.UpMapLemmas.{down_maps, left_maps, up_maps}
use Rattle.vx_grouped.proofs.StayPartLemmas.{quiet_down, quiet_map, stays_up}
use Rattle.vx_grouped.specs.declared.group_site.GroupSite.TheVariants.{Up, Down}
use Rattle.vx_grouped.proofs.site_leaving.deport_site.Goals as goal

pub returns-in-Ok-clause-deported : goal.returns-in-Ok-clause-deported
returns-in-Ok-clause-deported g c = λ n note up.
    let is_rack = (g.met.R.Rack g.world.𝓛 g.world.𝓜 g.world.𝓡 ((λ s x. x), (λ x. x), (λ x. x), λ x. x)).rack in
    let racks = shade_rack g.R.Shelf.meaning is_rack in
    deported_from n note c.args.laid up racks c.of.result c.in-Ok.rack c.of.ensures.rack c.of.ensures.agreed c.in-Ok.ensures.since c.in-Ok.ensures.told c.in-Ok.ensures.can c.in-Ok.ensures.moves c.in-Ok.ensures.up

pub returns-then-is_down_stop-clause-deported : goal.returns-then-is_down_stop-clause-deported
returns-then-is_down_stop-clause-deported g c = λ n note up.
    let is_rack = (g.met.R.Rack g.world.𝓛 g.world.𝓜 g.world.𝓡 ((λ s x. x), (λ x. x), (λ x. x), λ x. x)).rack in
    let racks = shade_rack g.R.Shelf.meaning is_rack in
    deport_cut n note c.args.laid up racks c.in-Err.laid c.in-Err.ensures.since c.in-Err.ensures.told c.in-Err.stop c.in-Err.ensures.refusals c.in-Err.ensures.moves c.crash.result c.crash.ensures.stopped c.crash.ensures.away c.crash.ensures.agreed c.crash.ensures.told
    (sym c.is_down_stop.ensures ∙ c.if-is_down_stop.true) (c.in-Err.ensures.leaves n note up.at)

pub returns-then-is_down_stop-clause-since : goal.returns-then-is_down_stop-clause-since
returns-then-is_down_stop-clause-since g c =
    since_stop (shade_meaning g.R.Shelf.meaning c.args.laid.shelf) (shade_meaning g.R.Shelf.meaning c.in-Err.laid.shelf) (shade_meaning g.R.Shelf.meaning c.crash.result.rack) (Crashed (shade_meaning g.R.Shelf.meaning c.in-Err.laid.shelf).size 0xffff_ffff_ffff_ffff) c.in-Err.ensures.since
    (deport_down c.args.laid.core (shade_meaning g.R.Shelf.meaning c.args.laid.shelf) (shade_meaning g.R.Shelf.meaning c.in-Err.laid.shelf) c.in-Err.stop (sym c.is_down_stop.ensures ∙ c.if-is_down_stop.true) c.in-Err.ensures.refusals) c.crash.ensures.stopped c.crash.ensures.disks

pub returns-else-is_down_stop-clause-deported : goal.returns-else-is_down_stop-clause-deported
returns-else-is_down_stop-clause-deported g c = λ n note up.
    let is_rack = (g.met.R.Rack g.world.𝓛 g.world.𝓜 g.world.𝓡 ((λ s x. x), (λ x. x), (λ x. x), λ x. x)).rack in
    let racks = shade_rack g.R.Shelf.meaning is_rack in
    deport_up n note c.args.laid up racks c.in-Err.laid c.in-Err.ensures.since c.in-Err.ensures.told c.in-Err.stop c.in-Err.ensures.refusals c.in-Err.ensures.moves (sym c.is_down_stop.ensures ∙ c.if-is_down_stop.false) (c.in-Err.ensures.leaves n note up.at)

pub returns-in-Ok-clause-since : goal.returns-in-Ok-clause-since
returns-in-Ok-clause-since g c = subst (λ s. CalledSince (shade_meaning g.R.Shelf.meaning c.args.laid.shelf) (shade_meaning g.R.Shelf.meaning s)) (sym c.of.ensures.rack) c.in-Ok.ensures.since

pub returns-then-is_down_stop-clause-told : goal.returns-then-is_down_stop-clause-told
returns-then-is_down_stop-clause-told g c = λ told. c.in-Err.ensures.told (c.crash.ensures.told told)

pub returns-in-Ok-clause-told : goal.returns-in-Ok-clause-told
returns-in-Ok-clause-told g c = subst (λ s. TellsLess (g.R.Shelf.meaning (rack_of c.args.laid.shelf)) (g.R.Shelf.meaning (rack_of s))) (sym c.of.ensures.rack) c.in-Ok.ensures.told

pub of-requires-clause-tells : goal.of-requires-clause-tells
of-requires-clause-tells g c = λ κs lives r agreed is. rest_tells c.in-Ok.rested (shade_meaning g.R.Shelf.meaning c.in-Ok.rack) c.in-Ok.ensures.tells r is

pub returns-then-is_down-clause-maps : goal.returns-then-is_down-clause-maps
returns-then-is_down-clause-maps g c = λ n note up. absurd (up.at.up (sym c.is_down.ensures ∙ c.if-is_down.true))

pub returns-in-Ok-clause-maps : goal.returns-in-Ok-clause-maps
returns-in-Ok-clause-maps g c = λ n note up.
    left_maps c.args.laid c.of.result
    (subst (λ (o : Option Rested). PartsLeft (laid_parts c.args.laid) o (shade_meaning g.R.Shelf.meaning c.args.laid.shelf) (shade_meaning g.R.Shelf.meaning c.of.result.rack)) (sym c.of.ensures.rested)
    (subst (λ s. PartsLeft (laid_parts c.args.laid) c.in-Ok.rested (shade_meaning g.R.Shelf.meaning c.args.laid.shelf) (shade_meaning g.R.Shelf.meaning s)) (sym c.of.ensures.rack) c.in-Ok.ensures.maps))

pub returns-then-is_down_stop-clause-maps : goal.returns-then-is_down_stop-clause-maps
returns-then-is_down_stop-clause-maps g c = λ n note up. (down_maps MapsLike c.args.laid c.crash.result c.crash.ensures.rests, quiet_down (StaysMapped (Up c.args.laid) (Down c.crash.result)) c.in-Err.stop (sym c.is_down_stop.ensures ∙ c.if-is_down_stop.true))

pub returns-else-is_down_stop-clause-maps : goal.returns-else-is_down_stop-clause-maps
returns-else-is_down_stop-clause-maps g c = λ n note up.
    let is_rack = (g.met.R.Rack g.world.𝓛 g.world.𝓜 g.world.𝓡 ((λ s x. x), (λ x. x), (λ x. x), λ x. x)).rack in
    let racks = shade_rack g.R.Shelf.meaning is_rack in
    let maps = (c.in-Err.ensures.maps (racks c.args.laid.shelf) (racks c.in-Err.laid.shelf)) in
    (up_maps MapsLike c.args.laid c.in-Err.laid (call_still (Unit {0}) n note c.in-Err.laid.core (shade_meaning g.R.Shelf.meaning c.in-Err.laid.shelf) c.in-Err.stop (sym c.is_down_stop.ensures ∙ c.if-is_down_stop.false) (c.in-Err.ensures.leaves n note up.at)) maps.0, quiet_map (PartsStay (laid_parts c.args.laid) (laid_parts c.in-Err.laid)) (StaysMapped (Up c.args.laid) (Up c.in-Err.laid)) c.in-Err.stop (stays_up c.args.laid c.in-Err.laid) maps.1)

pub returns-then-is_down-clause-volumes : goal.returns-then-is_down-clause-volumes
returns-then-is_down-clause-volumes g c = same_go (laid_seen c.args.laid)

pub returns-else-is_down_stop-clause-volumes : goal.returns-else-is_down_stop-clause-volumes
returns-else-is_down_stop-clause-volumes g c = none_go (laid_seen c.args.laid) (laid_seen c.in-Err.laid) c.in-Err.ensures.moves.goes

pub returns-then-is_down_stop-clause-volumes : goal.returns-then-is_down_stop-clause-volumes
returns-then-is_down_stop-clause-volumes g c = fell_behind Nowhere c.args.laid c.in-Err.laid c.crash.result (none_go (laid_seen c.args.laid) (laid_seen c.in-Err.laid) c.in-Err.ensures.moves.goes) c.crash.ensures.stopped c.crash.ensures.agreed c.crash.ensures.lacking

pub returns-in-Ok-clause-closes : goal.returns-in-Ok-clause-closes
returns-in-Ok-clause-closes g c = subst (λ s. DeportedBy (wide c.args.laid.core).config c.args.laid.core.inner (shade_meaning g.R.Shelf.meaning c.args.laid.shelf) (shade_meaning g.R.Shelf.meaning s)) (sym c.of.ensures.rack) c.in-Ok.ensures.moves
