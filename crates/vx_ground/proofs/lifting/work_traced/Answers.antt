-- Work over the disks of a site, of which contents are told or not.
use Rattle.vx_grouped.proofs.TraceLemmas.{carried_both, carried_in, carried_one}
use Rattle.vx_watched.specs.Since.{CalledSince}
use Rattle.vx_ground.specs.Accounts.{GroundSince, ground_state}
use Rattle.vx_ground.specs.Lifted.{volumes_over}
use Rattle.vx_ground.proofs.lifting.work_traced.Goals as goal

pub work_shaded-group-requires-clause-asks : goal.work_shaded-group-requires-clause-asks
work_shaded-group-requires-clause-asks g c = λ κs within.
    carried_one (λ x m. g.W.Work.asks c.args.work (volumes_over x m)) c.args.laid.core c.trace.result.core c.args.laid.shelf c.trace.result.shelf c.trace.ensures.core c.trace.ensures.shelf c.requires.asks

pub returns-clause-does : goal.returns-clause-does
returns-clause-does g c =
    carried_in (λ x s y t. g.W.Work.does c.args.work (volumes_over x s) (volumes_over y t) c.work_shaded-group.result.1)
    c.args.laid.core c.trace.result.core c.untrace.result.core c.work_shaded-group.result.0.core c.args.laid.shelf c.trace.result.shelf c.untrace.result.shelf c.work_shaded-group.result.0.shelf
    c.trace.ensures.core c.trace.ensures.shelf c.untrace.ensures.core c.untrace.ensures.shelf c.work_shaded-group.ensures.does

pub returns-clause-ground : goal.returns-clause-ground
returns-clause-ground g c =
    carried_in (λ x s y t. GroundSince (ground_state x) s (ground_state y) t)
    c.args.laid.core c.trace.result.core c.untrace.result.core c.work_shaded-group.result.0.core c.args.laid.shelf c.trace.result.shelf c.untrace.result.shelf c.work_shaded-group.result.0.shelf
    c.trace.ensures.core c.trace.ensures.shelf c.untrace.ensures.core c.untrace.ensures.shelf c.work_shaded-group.ensures.ground

pub returns-clause-since : goal.returns-clause-since
returns-clause-since g c =
    carried_both (λ s t. CalledSince s t) c.args.laid.shelf c.trace.result.shelf c.untrace.result.shelf c.work_shaded-group.result.0.shelf c.trace.ensures.shelf c.untrace.ensures.shelf c.work_shaded-group.ensures.since
