-- A fuse that is set on the disks of a group.
use Rattle.std.proofs.Common.{◌≡◌, ◌∙◌}
use Rattle.std.specs.Prelude.{Some}
use Rattle.vx_disk.specs.Causes.{OnDisks}
use Rattle.vx_disk.specs.Disks.{SameBlocks}
use Rattle.vx_disk.specs.Racks.{Alike}
use Rattle.vx_group.specs.Holding.{wide}
use Rattle.vx_group.specs.Stands.{inner_meaning}
use Rattle.vx_untold.specs.Shades.{shade_meaning}
use Rattle.vx_grouped.proofs.CarryLemmas.{carried}
use Rattle.vx_grouped.proofs.racking.fuse_shaded.Goals as goal

pub returns-clause-core : goal.returns-clause-core
returns-clause-core g c = c.together.ensures.core ∙ c.apart-shelf.ensures.core

pub returns-clause-logs : goal.returns-clause-logs
returns-clause-logs g c = c.together.ensures.logs ∙ c.apart-shelf.ensures.logs

pub returns-clause-flags : goal.returns-clause-flags
returns-clause-flags g c = c.together.ensures.alike ∙ c.apart-shelf.ensures.alike

pub returns-clause-fresh : goal.returns-clause-fresh
returns-clause-fresh g c = c.together.ensures.fresh ∙ c.apart-shelf.ensures.fresh

pub returns-clause-ended : goal.returns-clause-ended
returns-clause-ended g c = c.together.ensures.stopped ∙ c.apart-shelf.ensures.stopped

pub returns-clause-alike : goal.returns-clause-alike
returns-clause-alike g c =
    carried (λ x s y t. Alike (shade_meaning g.R.Shelf.meaning s) (shade_meaning g.R.Shelf.meaning t))
    c.args.group.core c.apart-shelf.result.1.core c.together.result.core c.apart-shelf.result.1.core c.args.group.shelf c.apart-shelf.result.0 c.together.result.shelf c.fuse_whole.new.rack
    c.apart-shelf.ensures.core c.apart-shelf.ensures.shelf c.together.ensures.core c.together.ensures.shelf c.fuse_whole.ensures.alike

pub returns-clause-down : goal.returns-clause-down
returns-clause-down g c =
    carried (λ x s y t. (shade_meaning g.R.Shelf.meaning t).down ≡ (shade_meaning g.R.Shelf.meaning s).down)
    c.args.group.core c.apart-shelf.result.1.core c.together.result.core c.apart-shelf.result.1.core c.args.group.shelf c.apart-shelf.result.0 c.together.result.shelf c.fuse_whole.new.rack
    c.apart-shelf.ensures.core c.apart-shelf.ensures.shelf c.together.ensures.core c.together.ensures.shelf c.fuse_whole.ensures.down

pub returns-clause-disks : goal.returns-clause-disks
returns-clause-disks g c =
    carried (λ x s y t. OnDisks (shade_meaning g.R.Shelf.meaning s).disks (shade_meaning g.R.Shelf.meaning t).disks (λ o n. SameBlocks o n × (n.fuse ≡ Some (c.args.calls, c.args.pick))))
    c.args.group.core c.apart-shelf.result.1.core c.together.result.core c.apart-shelf.result.1.core c.args.group.shelf c.apart-shelf.result.0 c.together.result.shelf c.fuse_whole.new.rack
    c.apart-shelf.ensures.core c.apart-shelf.ensures.shelf c.together.ensures.core c.together.ensures.shelf c.fuse_whole.ensures.disks

pub returns-clause-volumes : goal.returns-clause-volumes
returns-clause-volumes g c =
    carried (λ x s y t. Alike (inner_meaning (wide x) (shade_meaning g.R.Shelf.meaning s)) (inner_meaning (wide y) (shade_meaning g.R.Shelf.meaning t)))
    c.args.group.core c.apart-shelf.result.1.core c.together.result.core c.apart-shelf.result.1.core c.args.group.shelf c.apart-shelf.result.0 c.together.result.shelf c.fuse_whole.new.rack
    c.apart-shelf.ensures.core c.apart-shelf.ensures.shelf c.together.ensures.core c.together.ensures.shelf c.fuse_whole.ensures.volumes
