-- `zero_run`: clauses goes and ok.
use Rattle.vx_group.proofs.ZeroLemmas.{run_is, zero_goes, zero_ok}
use Rattle.vx_group.proofs.zeroing.zero_run.Goals as goal

pub returns-then-failed-eq0-clause-goes : goal.returns-then-failed-eq0-clause-goes
returns-then-failed-eq0-clause-goes g c = zero_goes c.args.config.now c.args.vol c.args.block c.args.count _ (g.S.Shelf.meaning c.args.shelf.now) (g.S.Shelf.meaning c.write_all.new.shelf) (run_is c.args.count c.requires.few) c.requires.volume c.requires.within c.write_all.ensures.goes

pub returns-then-failed-eq0-clause-ok : goal.returns-then-failed-eq0-clause-ok
returns-then-failed-eq0-clause-ok g c = zero_ok c.args.config.now c.args.vol c.args.block c.args.count _ (g.S.Shelf.meaning c.args.shelf.now) (g.S.Shelf.meaning c.write_all.new.shelf) (run_is c.args.count c.requires.few) c.requires.volume c.requires.within c.in-Ok.failed c.if-failed-eq0.true c.in-Ok.ensures.ends.0

pub returns-else-failed-eq0-clause-goes : goal.returns-else-failed-eq0-clause-goes
returns-else-failed-eq0-clause-goes g c = zero_goes c.args.config.now c.args.vol c.args.block c.args.count _ (g.S.Shelf.meaning c.args.shelf.now) (g.S.Shelf.meaning c.write_all.new.shelf) (run_is c.args.count c.requires.few) c.requires.volume c.requires.within c.write_all.ensures.goes

pub returns-in-Err-clause-goes : goal.returns-in-Err-clause-goes
returns-in-Err-clause-goes g c = zero_goes c.args.config.now c.args.vol c.args.block c.args.count _ (g.S.Shelf.meaning c.args.shelf.now) (g.S.Shelf.meaning c.write_all.new.shelf) (run_is c.args.count c.requires.few) c.requires.volume c.requires.within c.write_all.ensures.goes
