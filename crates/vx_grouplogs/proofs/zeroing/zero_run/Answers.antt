-- `zero_run`: clause goes; what stays true in its loop over `done`.
use Rattle.vx_grouplogs.proofs.ZeroRuns.{next_goes, next_zeros}
use Rattle.vx_grouplogs.proofs.zeroing.zero_run.Goals as goal

pub returns-in-Err-clause-goes : goal.returns-in-Err-clause-goes
returns-in-Err-clause-goes g c = next_goes c.args.unit c.args.first c.loop-done.done c.args.blocks c.loop-done-test.true (g.S.Shelf.meaning c.args.shelf.now) (g.S.Shelf.meaning c.loop-done.shelf) (g.S.Shelf.meaning c.write.new.self) c.loop-done.invariant c.write.ensures.goes

pub loop-done-preserved : goal.loop-done-preserved
loop-done-preserved g c = next_zeros c.args.unit c.args.first c.loop-done.done c.args.blocks c.loop-done-test.true (g.S.Shelf.meaning c.args.shelf.now) (g.S.Shelf.meaning c.loop-done.shelf) (g.S.Shelf.meaning c.write.new.self) c.loop-done.invariant c.write.ensures.goes c.in-Ok.ensures.ok
