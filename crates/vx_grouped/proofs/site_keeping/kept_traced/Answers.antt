-- The same over the disks of a site, of which contents are told or not.
use Rattle.std.proofs.Common.{◌∙◌, ap}
use Rattle.std.specs.Prelude.{length}
use Rattle.vx_disk.specs.Shelf.{Fits}
use Rattle.vx_group.specs.Holding.{wide}
use Rattle.vx_group.specs.Stands.{inner_meaning}
use Rattle.vx_watched.specs.Since.{CalledSince}
use Rattle.vx_grouped.specs.SiteKeeps.{PlainKeeps}
use Rattle.vx_grouped.proofs.PlainMapLemmas.{parts_same}
use Rattle.vx_grouped.proofs.TraceLemmas.{carried_both, carried_in, carried_one}
use Rattle.vx_grouped.proofs.site_keeping.kept_traced.Goals as goal

pub returns-clause-works : goal.returns-clause-works
returns-clause-works g c =
    carried_in (λ x s y t. PlainKeeps c.args.vol c.args.block c.args.bytes.now x s y t c.kept_shaded-group.result.1)
    c.args.laid.core c.trace.result.core c.untrace.result.core c.kept_shaded-group.result.0.core c.args.laid.shelf c.trace.result.shelf c.untrace.result.shelf c.kept_shaded-group.result.0.shelf
    c.trace.ensures.core c.trace.ensures.shelf c.untrace.ensures.core c.untrace.ensures.shelf c.kept_shaded-group.ensures.works

pub returns-clause-since : goal.returns-clause-since
returns-clause-since g c =
    carried_both (λ s t. CalledSince s t) c.args.laid.shelf c.trace.result.shelf c.untrace.result.shelf c.kept_shaded-group.result.0.shelf c.trace.ensures.shelf c.untrace.ensures.shelf c.kept_shaded-group.ensures.since

pub kept_shaded-group-requires-clause-fits : goal.kept_shaded-group-requires-clause-fits
kept_shaded-group-requires-clause-fits g c = λ κs within.
    carried_one (λ x m. Fits (inner_meaning (wide x) m) c.args.vol c.args.block (length c.args.bytes.now)) c.args.laid.core c.trace.result.core c.args.laid.shelf c.trace.result.shelf c.trace.ensures.core c.trace.ensures.shelf c.requires.fits

pub returns-clause-maps : goal.returns-clause-maps
returns-clause-maps g c =
    (parts_same c.kept_shaded-group.result.0.core.inner.config c.untrace.result.core.inner.config c.kept_shaded-group.result.0.logs.items c.untrace.result.logs.items c.kept_shaded-group.result.0.alike c.untrace.result.alike c.kept_shaded-group.result.0.stopped c.untrace.result.stopped
    (ap (λ x. x.inner.config) (c.untrace.ensures.core)) (ap (λ x. x.items) (c.untrace.ensures.logs)) (c.untrace.ensures.alike) (c.untrace.ensures.stopped))
    ∙ c.kept_shaded-group.ensures.maps
    ∙ (parts_same c.args.laid.core.inner.config c.trace.result.core.inner.config c.args.laid.logs.items c.trace.result.logs.items c.args.laid.alike c.trace.result.alike c.args.laid.stopped c.trace.result.stopped
    (ap (λ x. x.inner.config) (c.trace.ensures.core)) (ap (λ x. x.items) (c.trace.ensures.logs)) (c.trace.ensures.alike) (c.trace.ensures.stopped))
