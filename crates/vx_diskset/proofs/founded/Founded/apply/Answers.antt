-- An apply over a group.
use Rattle.vx_diskset.specs.Works.{DoesApply}
use Rattle.vx_ground.specs.Lifted.{laid_volumes}
use Rattle.vx_diskset.proofs.FoundedWork.{founded_works}
use Rattle.vx_diskset.proofs.OverWorks.{carried_core}
use Rattle.vx_diskset.proofs.founded.Founded.apply.Goals as goal

pub work_over-laid-requires-after_bounds : goal.work_over-laid-requires-after_bounds
work_over-laid-requires-after_bounds g c = λ κs lives. c.apart-laid.ensures.sound

pub together-requires-after_bounds : goal.together-requires-after_bounds
together-requires-after_bounds g c = λ κs lives. c.work_over-laid.ensures.does.keeps.sound

pub returns-clause-applied : goal.returns-clause-applied
returns-clause-applied g c =
    (carried_core (λ x l y k. DoesApply x c.args.to (laid_volumes l) y (laid_volumes k) c.work_over-laid.result.1.1)
    c.args.self.core c.apart-laid.result.1 c.together.result.core c.work_over-laid.result.1.0 c.args.self.laid c.apart-laid.result.0 c.together.result.laid c.work_over-laid.result.0
    c.apart-laid.ensures.core c.apart-laid.ensures.laid c.together.ensures.core c.together.ensures.laid c.work_over-laid.ensures.does).applied

pub returns-clause-reached : goal.returns-clause-reached
returns-clause-reached g c =
    (carried_core (λ x l y k. DoesApply x c.args.to (laid_volumes l) y (laid_volumes k) c.work_over-laid.result.1.1)
    c.args.self.core c.apart-laid.result.1 c.together.result.core c.work_over-laid.result.1.0 c.args.self.laid c.apart-laid.result.0 c.together.result.laid c.work_over-laid.result.0
    c.apart-laid.ensures.core c.apart-laid.ensures.laid c.together.ensures.core c.together.ensures.laid c.work_over-laid.ensures.does).reached

pub returns-clause-off : goal.returns-clause-off
returns-clause-off g c =
    (carried_core (λ x l y k. DoesApply x c.args.to (laid_volumes l) y (laid_volumes k) c.work_over-laid.result.1.1)
    c.args.self.core c.apart-laid.result.1 c.together.result.core c.work_over-laid.result.1.0 c.args.self.laid c.apart-laid.result.0 c.together.result.laid c.work_over-laid.result.0
    c.apart-laid.ensures.core c.apart-laid.ensures.laid c.together.ensures.core c.together.ensures.laid c.work_over-laid.ensures.does).off

pub returns-clause-works : goal.returns-clause-works
returns-clause-works g c =
    founded_works c.args.self.core c.apart-laid.result.1 c.together.result.core c.work_over-laid.result.1.0 c.args.self.laid c.apart-laid.result.0 c.together.result.laid c.work_over-laid.result.0
    c.apart-laid.ensures.core c.apart-laid.ensures.laid c.together.ensures.core c.together.ensures.laid
    c.work_over-laid.ensures.does.keeps c.work_over-laid.ensures.ground c.work_over-laid.ensures.since c.work_over-laid.ensures.told
