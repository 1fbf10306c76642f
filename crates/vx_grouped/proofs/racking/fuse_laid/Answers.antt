-- A fuse that is set on the disks of a group.
use Rattle.std.proofs.Common.{◌≡◌, ◌∙◌}
use Rattle.std.specs.Prelude.{Some}
use Rattle.vx_disk.specs.Causes.{OnDisks}
use Rattle.vx_disk.specs.Disks.{SameBlocks}
use Rattle.vx_disk.specs.Racks.{Alike}
use Rattle.vx_group.specs.Holding.{wide}
use Rattle.vx_group.specs.Stands.{inner_meaning}
use Rattle.vx_grouped.proofs.TraceLemmas.{carried_both, carried_in}
use Rattle.vx_grouped.proofs.racking.fuse_laid.Goals as goal

pub returns-clause-core : goal.returns-clause-core
returns-clause-core g c = c.untrace.ensures.core ∙ c.fuse_shaded.ensures.core ∙ c.trace.ensures.core

pub returns-clause-logs : goal.returns-clause-logs
returns-clause-logs g c = c.untrace.ensures.logs ∙ c.fuse_shaded.ensures.logs ∙ c.trace.ensures.logs

pub returns-clause-flags : goal.returns-clause-flags
returns-clause-flags g c = c.untrace.ensures.alike ∙ c.fuse_shaded.ensures.flags ∙ c.trace.ensures.alike

pub returns-clause-fresh : goal.returns-clause-fresh
returns-clause-fresh g c = c.untrace.ensures.fresh ∙ c.fuse_shaded.ensures.fresh ∙ c.trace.ensures.fresh

pub returns-clause-ended : goal.returns-clause-ended
returns-clause-ended g c = c.untrace.ensures.stopped ∙ c.fuse_shaded.ensures.ended ∙ c.trace.ensures.stopped

pub returns-clause-alike : goal.returns-clause-alike
returns-clause-alike g c =
    carried_both (λ m m'. Alike m m') c.args.laid.shelf c.trace.result.shelf c.untrace.result.shelf c.fuse_shaded.result.shelf c.trace.ensures.shelf c.untrace.ensures.shelf c.fuse_shaded.ensures.alike

pub returns-clause-down : goal.returns-clause-down
returns-clause-down g c =
    carried_both (λ m m'. m'.down ≡ m.down) c.args.laid.shelf c.trace.result.shelf c.untrace.result.shelf c.fuse_shaded.result.shelf c.trace.ensures.shelf c.untrace.ensures.shelf c.fuse_shaded.ensures.down

pub returns-clause-disks : goal.returns-clause-disks
returns-clause-disks g c =
    carried_both (λ m m'. OnDisks m.disks m'.disks (λ o n. SameBlocks o n × (n.fuse ≡ Some (c.args.calls, c.args.pick)))) c.args.laid.shelf c.trace.result.shelf c.untrace.result.shelf c.fuse_shaded.result.shelf c.trace.ensures.shelf c.untrace.ensures.shelf c.fuse_shaded.ensures.disks

pub returns-clause-volumes : goal.returns-clause-volumes
returns-clause-volumes g c =
    carried_in (λ x m y m'. Alike (inner_meaning (wide x) m) (inner_meaning (wide y) m')) c.args.laid.core c.trace.result.core c.untrace.result.core c.fuse_shaded.result.core c.args.laid.shelf c.trace.result.shelf c.untrace.result.shelf c.fuse_shaded.result.shelf
    c.trace.ensures.core c.trace.ensures.shelf c.untrace.ensures.core c.untrace.ensures.shelf c.fuse_shaded.ensures.volumes
