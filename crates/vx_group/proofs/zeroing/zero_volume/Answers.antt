-- `zero_volume`: clauses goes, ok and cause.
use Rattle.vx_group.proofs.CallLemmas.{blames_later}
use Rattle.vx_group.proofs.ZeroLemmas.{zero_all, zero_flushed}
use Rattle.vx_group.proofs.zeroing.zero_volume.Goals as goal

pub returns-clause-goes : goal.returns-clause-goes
returns-clause-goes g c = zero_flushed c.args.config.now c.args.vol (g.S.Shelf.meaning c.args.shelf.now) (g.S.Shelf.meaning c.zero_blocks.new.shelf) (g.S.Shelf.meaning c.flush_each.new.shelf) c.zero_blocks.ensures.goes c.flush_each.ensures.goes

pub returns-clause-ok : goal.returns-clause-ok
returns-clause-ok g c = zero_all c.args.config.now c.args.vol (g.S.Shelf.meaning c.zero_blocks.new.shelf) (g.S.Shelf.meaning c.flush_each.new.shelf) c.in-Ok.ensures.ok c.flush_each.result c.flush_each.ensures.ok

pub returns-clause-cause : goal.returns-clause-cause
returns-clause-cause g c = blames_later c.flush_each.result (g.S.Shelf.meaning c.args.shelf.now) (g.S.Shelf.meaning c.zero_blocks.new.shelf) (g.S.Shelf.meaning c.flush_each.new.shelf) c.zero_blocks.ensures.goes.disk_faults c.flush_each.ensures.cause
