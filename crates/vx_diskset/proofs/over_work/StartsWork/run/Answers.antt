-- A group that is started from what stands on these volumes.
use Rattle.std.specs.Prelude.{Ok}
use Rattle.vx_diskset.specs.Works.{DoesStart}
use Rattle.vx_diskset.proofs.OverWorks.{moved_core, only_log}
use Rattle.vx_diskset.proofs.over_work.StartsWork.run.Goals as goal

pub start_in-requires : goal.start_in-requires
start_in-requires g c = record { placed = c.requires.0; large = c.requires.1; room = c.requires.2; maps = c.requires.3 }

pub returns-in-Ok : goal.returns-in-Ok
returns-in-Ok g c =
    moved_core (λ x t. DoesStart c.args.self.units.now (g.S.Shelf.meaning c.args.shelf) (g.S.Shelf.meaning t) (Ok x)) c.apart-shelf.result.1 c.in-Ok.rvg.core c.apart-shelf.result.0 c.in-Ok.rvg.shelf c.apart-shelf.ensures.core c.apart-shelf.ensures.shelf
    (only_log c.args.self.units.now _ _ _ (g.S.Shelf.meaning c.args.shelf) (g.S.Shelf.meaning c.in-Ok.rvg.shelf) c.in-Ok.ensures.moves, c.in-Ok.rvg.sound, c.in-Ok.ensures.starts, c.in-Ok.ensures.up)

pub returns-in-Err : goal.returns-in-Err
returns-in-Err g c =
    (only_log c.args.self.units.now _ _ _ (g.S.Shelf.meaning c.args.shelf) (g.S.Shelf.meaning c.in-Err.shelf) c.in-Err.ensures.left, c.in-Err.ensures.left, c.in-Err.ensures.cause, c.in-Err.ensures.limit)
