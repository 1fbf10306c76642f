-- The putting of a region, case by case.
use Rattle.vx_regions.proofs.Puts.{put_step, put_stopped}
use Rattle.vx_regions.proofs.region.put.Goals as goal

pub returns-in-Ok-clause-putting : goal.returns-in-Ok-clause-putting
returns-in-Ok-clause-putting g c =
    put_step c.args.rvg.now.core c.apply.new.self.core (record { volume = c.args.vol; start = c.args.start; bytes = c.args.bytes.now }) (g.S.Shelf.meaning c.args.rvg.now.shelf) (g.S.Shelf.meaning c.apply.new.self.shelf) c.head-last.result c.requires.running c.apply.ensures.moves
    c.store.new.self.core (g.S.Shelf.meaning c.store.new.self.shelf) c.in-Ok.field-0 c.in-Ok.ensures.answers c.in-Ok.ensures.stands c.requires.within c.ring-ring.ensures.low c.store.result c.store.ensures.answers c.store.ensures.moves

pub returns-in-Err-clause-putting : goal.returns-in-Err-clause-putting
returns-in-Err-clause-putting g c =
    put_stopped c.args.rvg.now.core c.apply.new.self.core (record { volume = c.args.vol; start = c.args.start; bytes = c.args.bytes.now }) (g.S.Shelf.meaning c.args.rvg.now.shelf) (g.S.Shelf.meaning c.apply.new.self.shelf) c.head-last.result c.requires.running c.apply.ensures.moves
    c.in-Err.no c.in-Err.ensures.answers
