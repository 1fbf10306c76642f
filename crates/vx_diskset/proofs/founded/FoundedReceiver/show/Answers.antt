-- What a receiver over a group shows.
use Rattle.std.proofs.Common.{◌<◌, List, length, subst, sym}
use Rattle.vx_model.specs.declared.call.Update.{Update}
use Rattle.vx_rvg.specs.Views.{Core}
use Rattle.vx_secondary.specs.Receivers.{Wait}
use Rattle.vx_diskset.specs.Works.{DoesShow}
use Rattle.vx_ground.specs.Lifted.{laid_volumes}
use Rattle.vx_diskset.specs.LaidBlocks.{laid_blockwise}
use Rattle.vx_diskset.proofs.FoundedWork.{founded_works}
use Rattle.vx_diskset.proofs.Receiving.{wait_core}
use Rattle.vx_diskset.proofs.Showing.{show_front}
use Rattle.vx_diskset.proofs.OverWorks.{carried_core}
use Rattle.vx_diskset.proofs.founded.FoundedReceiver.show.Goals as goal

pub work_over-laid-requires-after_bounds : goal.work_over-laid-requires-after_bounds
work_over-laid-requires-after_bounds g c = λ κs lives. record {
  read = record {
    sound = c.apart-laid.ensures.sound;
    there = subst (λ (x : Core). c.args.volume < length x.units.vols) (sym c.apart-laid.ensures.core) c.requires.volume;
    some = c.requires.some;
    few = c.requires.few;
    whole = c.requires.whole;
  };
  waits = c.apart-laid.ensures.waits;
}

pub together-requires-clause-sound : goal.together-requires-clause-sound
together-requires-clause-sound g c = λ κs lives. c.work_over-laid.ensures.does.keeps.sound

pub together-requires-clause-waits : goal.together-requires-clause-waits
together-requires-clause-waits g c = λ κs lives. subst (λ (us : List Update). Wait c.work_over-laid.result.1.0 (laid_volumes c.work_over-laid.result.0).size us) (sym c.work_over-laid.ensures.does.waiting)
    (wait_core c.apart-laid.result.1 c.work_over-laid.result.1.0 (laid_volumes c.apart-laid.result.0) (laid_volumes c.work_over-laid.result.0) c.apart-laid.result.2 c.work_over-laid.ensures.does.same c.work_over-laid.ensures.does.keeps.moves.size c.apart-laid.ensures.waits)

pub returns-clause-shows : goal.returns-clause-shows
returns-clause-shows g c = λ beside n at can.
    let does =
    subst (λ (us : List Update). DoesShow c.args.self.core us c.args.volume c.args.start (length c.args.into.now) (laid_volumes c.args.self.laid) c.together.result.core c.together.result.waiting c.work_over-laid.result.1.2 (laid_volumes c.together.result.laid) c.work_over-laid.result.1.3) c.apart-laid.ensures.waiting
    (subst (λ (us : List Update). DoesShow c.args.self.core c.apart-laid.result.2 c.args.volume c.args.start (length c.args.into.now) (laid_volumes c.args.self.laid) c.together.result.core us c.work_over-laid.result.1.2 (laid_volumes c.together.result.laid) c.work_over-laid.result.1.3) (sym c.together.ensures.waiting)
    (carried_core (λ x l y k. DoesShow x c.apart-laid.result.2 c.args.volume c.args.start (length c.args.into.now) (laid_volumes l) y c.work_over-laid.result.1.1 c.work_over-laid.result.1.2 (laid_volumes k) c.work_over-laid.result.1.3)
    c.args.self.core c.apart-laid.result.1 c.together.result.core c.work_over-laid.result.1.0 c.args.self.laid c.apart-laid.result.0 c.together.result.laid c.work_over-laid.result.0
    c.apart-laid.ensures.core c.apart-laid.ensures.laid c.together.ensures.core c.together.ensures.laid c.work_over-laid.ensures.does)) in
    show_front beside n c.together.result.core c.together.result.waiting c.args.volume c.args.start (length c.args.into.now) c.work_over-laid.result.1.2 c.copy_from_slice.new.self (laid_blockwise c.args.self.laid) (laid_blockwise c.together.result.laid) c.work_over-laid.result.1.3
    does.long c.requires.few c.copy_from_slice.ensures.after (does.shown beside n at) can

pub returns-clause-works : goal.returns-clause-works
returns-clause-works g c =
    founded_works c.args.self.core c.apart-laid.result.1 c.together.result.core c.work_over-laid.result.1.0 c.args.self.laid c.apart-laid.result.0 c.together.result.laid c.work_over-laid.result.0
    c.apart-laid.ensures.core c.apart-laid.ensures.laid c.together.ensures.core c.together.ensures.laid
    c.work_over-laid.ensures.does.keeps c.work_over-laid.ensures.ground c.work_over-laid.ensures.since c.work_over-laid.ensures.told

pub returns-clause-down : goal.returns-clause-down
returns-clause-down g c =
    (carried_core (λ x l y k. DoesShow x c.apart-laid.result.2 c.args.volume c.args.start (length c.args.into.now) (laid_volumes l) y c.work_over-laid.result.1.1 c.work_over-laid.result.1.2 (laid_volumes k) c.work_over-laid.result.1.3)
    c.args.self.core c.apart-laid.result.1 c.together.result.core c.work_over-laid.result.1.0 c.args.self.laid c.apart-laid.result.0 c.together.result.laid c.work_over-laid.result.0
    c.apart-laid.ensures.core c.apart-laid.ensures.laid c.together.ensures.core c.together.ensures.laid c.work_over-laid.ensures.does).down
