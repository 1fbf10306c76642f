-- A read over a group.
use Rattle.std.proofs.Common.{◌<◌, length, subst, sym}
use Rattle.vx_rvg.specs.Views.{Core}
use Rattle.vx_diskset.specs.Works.{DoesRead}
use Rattle.vx_ground.specs.Lifted.{laid_volumes}
use Rattle.vx_diskset.specs.LaidBlocks.{laid_blockwise}
use Rattle.vx_diskset.proofs.FoundedWork.{founded_works}
use Rattle.vx_diskset.proofs.OverReads.{read_front}
use Rattle.vx_diskset.proofs.OverWorks.{carried_core}
use Rattle.vx_diskset.proofs.founded.Founded.read.Goals as goal

pub work_over-laid-requires-after_bounds : goal.work_over-laid-requires-after_bounds
work_over-laid-requires-after_bounds g c = λ κs lives. record {
  sound = c.apart-laid.ensures.sound;
  there = subst (λ (x : Core). c.args.volume < length x.units.vols) (sym c.apart-laid.ensures.core) c.requires.volume;
  some = c.requires.some;
  few = c.requires.few;
  whole = c.requires.whole;
}

pub together-requires-after_bounds : goal.together-requires-after_bounds
together-requires-after_bounds g c = λ κs lives. c.work_over-laid.ensures.does.keeps.sound

pub returns-clause-read : goal.returns-clause-read
returns-clause-read g c = λ beside n up can.
    let does =
    carried_core (λ x l y k. DoesRead x c.args.volume c.args.start (length c.args.into.now) (laid_volumes l) y c.work_over-laid.result.1.1 (laid_volumes k) c.work_over-laid.result.1.2)
    c.args.self.core c.apart-laid.result.1 c.together.result.core c.work_over-laid.result.1.0 c.args.self.laid c.apart-laid.result.0 c.together.result.laid c.work_over-laid.result.0
    c.apart-laid.ensures.core c.apart-laid.ensures.laid c.together.ensures.core c.together.ensures.laid c.work_over-laid.ensures.does in
    read_front beside n c.together.result.core c.args.volume c.args.start (length c.args.into.now) c.work_over-laid.result.1.1 c.copy_from_slice.new.self (laid_blockwise c.args.self.laid) (laid_blockwise c.together.result.laid) c.work_over-laid.result.1.2
    does.long c.requires.few c.copy_from_slice.ensures.after (does.read beside n up) can

pub returns-clause-works : goal.returns-clause-works
returns-clause-works g c =
    founded_works c.args.self.core c.apart-laid.result.1 c.together.result.core c.work_over-laid.result.1.0 c.args.self.laid c.apart-laid.result.0 c.together.result.laid c.work_over-laid.result.0
    c.apart-laid.ensures.core c.apart-laid.ensures.laid c.together.ensures.core c.together.ensures.laid
    c.work_over-laid.ensures.does.keeps c.work_over-laid.ensures.ground c.work_over-laid.ensures.since c.work_over-laid.ensures.told

pub returns-clause-down : goal.returns-clause-down
returns-clause-down g c =
    (carried_core (λ x l y k. DoesRead x c.args.volume c.args.start (length c.args.into.now) (laid_volumes l) y c.work_over-laid.result.1.1 (laid_volumes k) c.work_over-laid.result.1.2)
    c.args.self.core c.apart-laid.result.1 c.together.result.core c.work_over-laid.result.1.0 c.args.self.laid c.apart-laid.result.0 c.together.result.laid c.work_over-laid.result.0
    c.apart-laid.ensures.core c.apart-laid.ensures.laid c.together.ensures.core c.together.ensures.laid c.work_over-laid.ensures.does).down
