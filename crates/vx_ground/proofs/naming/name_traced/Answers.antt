-- The volumes of a replicated volume group are named over the disks of a site, of which contents are told or not.
use Rattle.vx_grouped.proofs.TraceLemmas.{carried_both, carried_in}
use Rattle.vx_watched.specs.Since.{CalledSince}
use Rattle.vx_ground.specs.Named.{NamesGroup}
use Rattle.vx_ground.proofs.naming.name_traced.Goals as goal

pub returns-clause-names : goal.returns-clause-names
returns-clause-names g c =
    carried_in (λ x s y t. NamesGroup c.args.units.now x s y t c.name_shaded-group.result.1)
    c.args.laid.core c.trace.result.core c.untrace.result.core c.name_shaded-group.result.0.core c.args.laid.shelf c.trace.result.shelf c.untrace.result.shelf c.name_shaded-group.result.0.shelf
    c.trace.ensures.core c.trace.ensures.shelf c.untrace.ensures.core c.untrace.ensures.shelf c.name_shaded-group.ensures.names

pub returns-clause-since : goal.returns-clause-since
returns-clause-since g c =
    carried_both (λ s t. CalledSince s t) c.args.laid.shelf c.trace.result.shelf c.untrace.result.shelf c.name_shaded-group.result.0.shelf c.trace.ensures.shelf c.untrace.ensures.shelf c.name_shaded-group.ensures.since
