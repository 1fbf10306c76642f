-- `take_up`: clause takes; what `plan_of` asks.
use Rattle.vx_group.proofs.TakeLemmas.{came_sound, err_takes, takes_all}
use Rattle.vx_group.proofs.taking.take_up.Goals as goal

pub plan_of-requires : goal.plan_of-requires
plan_of-requires g c = record { sound = came_sound (g.S.Shelf.meaning c.args.shelf.now) (g.S.Shelf.meaning c.import.new.shelf) c.in-Ok.config c.in-Ok.good c.in-Ok.ensures.imported }

pub returns-in-Ok-clause-takes : goal.returns-in-Ok-clause-takes
returns-in-Ok-clause-takes g c =
    takes_all (g.S.Shelf.meaning c.args.shelf.now) (g.S.Shelf.meaning c.import.new.shelf) c.in-Ok.config c.in-Ok.good c.in-Ok.ensures.imported (g.met.S.Shelf.lawful c.args.shelf.now) (g.met.S.Shelf.lawful c.import.new.shelf)
    c.import.ensures.goes c.requires.large c.requires.can c.plan_of.result c.plan_of.ensures

pub returns-in-Err-clause-takes : goal.returns-in-Err-clause-takes
returns-in-Err-clause-takes g c = err_takes (g.S.Shelf.meaning c.args.shelf.now) (g.S.Shelf.meaning c.import.new.shelf) c.in-Err.stop c.in-Err.ensures.imported
