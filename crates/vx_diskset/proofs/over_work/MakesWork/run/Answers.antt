-- A group that is made of these volumes.
use Rattle.std.specs.Prelude.{Ok}
use Rattle.vx_diskset.specs.Works.{DoesMake}
use Rattle.vx_diskset.proofs.OverWorks.{moved_core, only_log}
use Rattle.vx_diskset.proofs.over_work.MakesWork.run.Goals as goal

pub create-requires : goal.create-requires
create-requires g c = record { placed = c.requires.0; state = c.requires.2 }

pub returns-in-Ok : goal.returns-in-Ok
returns-in-Ok g c =
    moved_core (λ x t. DoesMake c.args.self.units.now c.args.self.state (g.S.Shelf.meaning c.args.shelf) (g.S.Shelf.meaning t) (Ok x)) c.apart-shelf.result.1 c.in-Ok.rvg.core c.apart-shelf.result.0 c.in-Ok.rvg.shelf c.apart-shelf.ensures.core c.apart-shelf.ensures.shelf
    (only_log c.args.self.units.now _ _ _ (g.S.Shelf.meaning c.args.shelf) (g.S.Shelf.meaning c.in-Ok.rvg.shelf) c.in-Ok.ensures.moves, c.in-Ok.rvg.sound, c.in-Ok.ensures.core, c.in-Ok.ensures.up, λ tells k maps holds. c.in-Ok.ensures.stands tells k maps holds)

pub returns-in-Err : goal.returns-in-Err
returns-in-Err g c = (only_log c.args.self.units.now _ _ _ (g.S.Shelf.meaning c.args.shelf) (g.S.Shelf.meaning c.in-Err.shelf) c.in-Err.ensures.left, c.in-Err.ensures.cause c.requires.1)
