-- Disks of a group that are made to fail.
use Rattle.std.proofs.Common.{◌≡◌, ◌≢◌, ◌∙◌, ℕ, sym, subst}
use Rattle.std.specs.Prelude.{◌<◌}
use Rattle.vx_disk.specs.Causes.{WithDisks}
use Rattle.vx_disk.specs.Disks.{Untouched}
use Rattle.vx_disk.specs.Racks.{Alike}
use Rattle.vx_group.specs.Holding.{wide}
use Rattle.vx_group.specs.Stands.{inner_meaning}
use Rattle.vx_untold.specs.Shades.{shade_meaning}
use Rattle.vx_grouped.proofs.CarryLemmas.{carried}
use Rattle.vx_grouped.proofs.racking.fail_shaded.Goals as goal

pub returns-clause-core : goal.returns-clause-core
returns-clause-core g c = c.together.ensures.core ∙ c.apart-shelf.ensures.core

pub returns-clause-logs : goal.returns-clause-logs
returns-clause-logs g c = c.together.ensures.logs ∙ c.apart-shelf.ensures.logs

pub returns-clause-flags : goal.returns-clause-flags
returns-clause-flags g c = c.together.ensures.alike ∙ c.apart-shelf.ensures.alike

pub returns-clause-fresh : goal.returns-clause-fresh
returns-clause-fresh g c = c.together.ensures.fresh ∙ c.apart-shelf.ensures.fresh

pub returns-clause-ended : goal.returns-clause-ended
returns-clause-ended g c = c.together.ensures.stopped ∙ c.apart-shelf.ensures.stopped

pub returns-clause-alike : goal.returns-clause-alike
returns-clause-alike g c =
    carried (λ x s y t. Alike (shade_meaning g.R.Shelf.meaning s) (shade_meaning g.R.Shelf.meaning t))
    c.args.group.core c.apart-shelf.result.1.core c.together.result.core c.apart-shelf.result.1.core c.args.group.shelf c.apart-shelf.result.0 c.together.result.shelf c.fail_whole.new.rack
    c.apart-shelf.ensures.core c.apart-shelf.ensures.shelf c.together.ensures.core c.together.ensures.shelf c.fail_whole.ensures.alike

pub returns-clause-down : goal.returns-clause-down
returns-clause-down g c =
    carried (λ x s y t. (shade_meaning g.R.Shelf.meaning t).down ≡ (shade_meaning g.R.Shelf.meaning s).down)
    c.args.group.core c.apart-shelf.result.1.core c.together.result.core c.apart-shelf.result.1.core c.args.group.shelf c.apart-shelf.result.0 c.together.result.shelf c.fail_whole.new.rack
    c.apart-shelf.ensures.core c.apart-shelf.ensures.shelf c.together.ensures.core c.together.ensures.shelf c.fail_whole.ensures.down

pub returns-clause-armed : goal.returns-clause-armed
returns-clause-armed g c =
    carried (λ x s y t. (shade_meaning g.R.Shelf.meaning t).armed ≡ (shade_meaning g.R.Shelf.meaning s).armed)
    c.args.group.core c.apart-shelf.result.1.core c.together.result.core c.apart-shelf.result.1.core c.args.group.shelf c.apart-shelf.result.0 c.together.result.shelf c.fail_whole.new.rack
    c.apart-shelf.ensures.core c.apart-shelf.ensures.shelf c.together.ensures.core c.together.ensures.shelf c.fail_whole.ensures.armed

pub returns-clause-disks : goal.returns-clause-disks
returns-clause-disks g c =
    carried (λ x s y t. WithDisks (shade_meaning g.R.Shelf.meaning s).disks (shade_meaning g.R.Shelf.meaning t).disks (λ o n. Untouched o n × (n.failing c.args.disk ≡ c.args.on) × ((u : ℕ) → u ≢ c.args.disk → n.failing u ≡ o.failing u)))
    c.args.group.core c.apart-shelf.result.1.core c.together.result.core c.apart-shelf.result.1.core c.args.group.shelf c.apart-shelf.result.0 c.together.result.shelf c.fail_whole.new.rack
    c.apart-shelf.ensures.core c.apart-shelf.ensures.shelf c.together.ensures.core c.together.ensures.shelf c.fail_whole.ensures.disks

pub returns-clause-volumes : goal.returns-clause-volumes
returns-clause-volumes g c =
    carried (λ x s y t. Alike (inner_meaning (wide x) (shade_meaning g.R.Shelf.meaning s)) (inner_meaning (wide y) (shade_meaning g.R.Shelf.meaning t)))
    c.args.group.core c.apart-shelf.result.1.core c.together.result.core c.apart-shelf.result.1.core c.args.group.shelf c.apart-shelf.result.0 c.together.result.shelf c.fail_whole.new.rack
    c.apart-shelf.ensures.core c.apart-shelf.ensures.shelf c.together.ensures.core c.together.ensures.shelf c.fail_whole.ensures.volumes

pub fail_whole-requires-clause-inside : goal.fail_whole-requires-clause-inside
fail_whole-requires-clause-inside g c = λ κs within. subst (λ s. c.args.disk < (shade_meaning g.R.Shelf.meaning s).units) (sym c.apart-shelf.ensures.shelf) c.requires.disk
