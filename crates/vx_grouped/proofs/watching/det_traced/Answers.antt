-- The same over the disks of a site, of which contents are told or not.
use Rattle.std.proofs.Common.{IsTrue, ap, sym}
use Rattle.vx_disk.specs.Racks.{IsRack}
use Rattle.vx_untold.specs.Shades.{shade_meaning}
use Rattle.vx_watched.specs.Since.{CalledSince}
use Rattle.vx_grouped.specs.Watches.{PlexDets}
use Rattle.vx_grouped.proofs.TraceLemmas.{carried_both, carried_in, carried_on, off_means}
use Rattle.vx_grouped.specs.PlainMaps.{DetsMaps, map_parts}
use Rattle.vx_grouped.proofs.PlainMapLemmas.{parts_carried, parts_same}
use Rattle.vx_grouped.proofs.watching.det_traced.Goals as goal

pub returns-clause-works : goal.returns-clause-works
returns-clause-works g c =
    carried_in (λ x s y t. PlexDets c.args.vol c.args.plex x s y t c.det_shaded-group.result.1)
    c.args.laid.core c.trace.result.core c.untrace.result.core c.det_shaded-group.result.0.core c.args.laid.shelf c.trace.result.shelf c.untrace.result.shelf c.det_shaded-group.result.0.shelf
    c.trace.ensures.core c.trace.ensures.shelf c.untrace.ensures.core c.untrace.ensures.shelf c.det_shaded-group.ensures.works

pub returns-clause-since : goal.returns-clause-since
returns-clause-since g c =
    carried_both (λ s t. CalledSince s t) c.args.laid.shelf c.trace.result.shelf c.untrace.result.shelf c.det_shaded-group.result.0.shelf c.trace.ensures.shelf c.untrace.ensures.shelf c.det_shaded-group.ensures.since

pub det_shaded-group-requires-clause-up : goal.det_shaded-group-requires-clause-up
det_shaded-group-requires-clause-up g c = λ κs within. carried_on (λ m. IsTrue m.down → ⊥) c.args.laid.shelf c.trace.result.shelf c.trace.ensures.shelf c.requires.up

pub returns-clause-maps : goal.returns-clause-maps
returns-clause-maps g c =
    parts_carried (λ x m y n. IsRack m → IsRack n → DetsMaps c.args.vol c.args.plex x m y n c.det_shaded-group.result.1)
    (map_parts c.args.laid.core.inner.config c.args.laid.logs.items c.args.laid.alike c.args.laid.stopped) (map_parts c.trace.result.core.inner.config c.trace.result.logs.items c.trace.result.alike c.trace.result.stopped) (map_parts c.untrace.result.core.inner.config c.untrace.result.logs.items c.untrace.result.alike c.untrace.result.stopped) (map_parts c.det_shaded-group.result.0.core.inner.config c.det_shaded-group.result.0.logs.items c.det_shaded-group.result.0.alike c.det_shaded-group.result.0.stopped) (shade_meaning g.R.Shelf.meaning c.args.laid.shelf) (shade_meaning (λ t. g.R.Shelf.meaning t.rack) c.trace.result.shelf) (shade_meaning g.R.Shelf.meaning c.untrace.result.shelf) (shade_meaning (λ t. g.R.Shelf.meaning t.rack) c.det_shaded-group.result.0.shelf)
    (parts_same c.args.laid.core.inner.config c.trace.result.core.inner.config c.args.laid.logs.items c.trace.result.logs.items c.args.laid.alike c.trace.result.alike c.args.laid.stopped c.trace.result.stopped
    (ap (λ x. x.inner.config) (c.trace.ensures.core)) (ap (λ x. x.items) (c.trace.ensures.logs)) (c.trace.ensures.alike) (c.trace.ensures.stopped))
    (off_means c.args.laid.shelf c.trace.result.shelf c.trace.ensures.shelf)
    (parts_same c.det_shaded-group.result.0.core.inner.config c.untrace.result.core.inner.config c.det_shaded-group.result.0.logs.items c.untrace.result.logs.items c.det_shaded-group.result.0.alike c.untrace.result.alike c.det_shaded-group.result.0.stopped c.untrace.result.stopped
    (ap (λ x. x.inner.config) (c.untrace.ensures.core)) (ap (λ x. x.items) (c.untrace.ensures.logs)) (c.untrace.ensures.alike) (c.untrace.ensures.stopped))
    (sym (off_means c.untrace.result.shelf c.det_shaded-group.result.0.shelf c.untrace.ensures.shelf))
    c.det_shaded-group.ensures.maps
