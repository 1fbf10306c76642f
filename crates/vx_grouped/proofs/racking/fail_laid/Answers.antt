-- Disks of a group that are made to fail.
use Rattle.std.proofs.Common.{◌≡◌, ◌≢◌, ◌∙◌, ℕ}
use Rattle.std.specs.Prelude.{◌<◌}
use Rattle.vx_disk.specs.Causes.{WithDisks}
use Rattle.vx_disk.specs.Disks.{Untouched}
use Rattle.vx_disk.specs.Racks.{Alike}
use Rattle.vx_group.specs.Holding.{wide}
use Rattle.vx_group.specs.Stands.{inner_meaning}
use Rattle.vx_grouped.proofs.TraceLemmas.{carried_both, carried_in, carried_on}
use Rattle.vx_grouped.proofs.racking.fail_laid.Goals as goal

pub returns-clause-core : goal.returns-clause-core
returns-clause-core g c = c.untrace.ensures.core ∙ c.fail_shaded.ensures.core ∙ c.trace.ensures.core

pub returns-clause-logs : goal.returns-clause-logs
returns-clause-logs g c = c.untrace.ensures.logs ∙ c.fail_shaded.ensures.logs ∙ c.trace.ensures.logs

pub returns-clause-flags : goal.returns-clause-flags
returns-clause-flags g c = c.untrace.ensures.alike ∙ c.fail_shaded.ensures.flags ∙ c.trace.ensures.alike

pub returns-clause-fresh : goal.returns-clause-fresh
returns-clause-fresh g c = c.untrace.ensures.fresh ∙ c.fail_shaded.ensures.fresh ∙ c.trace.ensures.fresh

pub returns-clause-ended : goal.returns-clause-ended
returns-clause-ended g c = c.untrace.ensures.stopped ∙ c.fail_shaded.ensures.ended ∙ c.trace.ensures.stopped

pub returns-clause-alike : goal.returns-clause-alike
returns-clause-alike g c =
    carried_both (λ m m'. Alike m m') c.args.laid.shelf c.trace.result.shelf c.untrace.result.shelf c.fail_shaded.result.shelf c.trace.ensures.shelf c.untrace.ensures.shelf c.fail_shaded.ensures.alike

pub returns-clause-down : goal.returns-clause-down
returns-clause-down g c =
    carried_both (λ m m'. m'.down ≡ m.down) c.args.laid.shelf c.trace.result.shelf c.untrace.result.shelf c.fail_shaded.result.shelf c.trace.ensures.shelf c.untrace.ensures.shelf c.fail_shaded.ensures.down

pub returns-clause-armed : goal.returns-clause-armed
returns-clause-armed g c =
    carried_both (λ m m'. m'.armed ≡ m.armed) c.args.laid.shelf c.trace.result.shelf c.untrace.result.shelf c.fail_shaded.result.shelf c.trace.ensures.shelf c.untrace.ensures.shelf c.fail_shaded.ensures.armed

pub returns-clause-disks : goal.returns-clause-disks
returns-clause-disks g c =
    carried_both (λ m m'. WithDisks m.disks m'.disks (λ o n. Untouched o n × (n.failing c.args.disk ≡ c.args.on) × ((u : ℕ) → u ≢ c.args.disk → n.failing u ≡ o.failing u))) c.args.laid.shelf c.trace.result.shelf c.untrace.result.shelf c.fail_shaded.result.shelf c.trace.ensures.shelf c.untrace.ensures.shelf c.fail_shaded.ensures.disks

pub returns-clause-volumes : goal.returns-clause-volumes
returns-clause-volumes g c =
    carried_in (λ x m y m'. Alike (inner_meaning (wide x) m) (inner_meaning (wide y) m')) c.args.laid.core c.trace.result.core c.untrace.result.core c.fail_shaded.result.core c.args.laid.shelf c.trace.result.shelf c.untrace.result.shelf c.fail_shaded.result.shelf
    c.trace.ensures.core c.trace.ensures.shelf c.untrace.ensures.core c.untrace.ensures.shelf c.fail_shaded.ensures.volumes

pub fail_shaded-requires-clause-disk : goal.fail_shaded-requires-clause-disk
fail_shaded-requires-clause-disk g c = λ κs within. carried_on (λ m. c.args.disk < m.units) c.args.laid.shelf c.trace.result.shelf c.trace.ensures.shelf c.requires.disk
