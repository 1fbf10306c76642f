-- `zero_blocks`: clauses goes and ok; what stays true in its loop over `done`.
use Rattle.std.proofs.Common.{arith}
use Rattle.vx_config.specs.Checks.{blocks_of}
use Rattle.vx_group.proofs.ZeroLemmas.{zero_end, zero_more, zero_then}
use Rattle.vx_group.proofs.zeroing.zero_blocks.Goals as goal

pub loop-done-preserved : goal.loop-done-preserved
loop-done-preserved g c = zero_more c.args.config.now c.args.vol c.loop-done.done c.min-count.result (blocks_of c.args.config.now.volumes c.args.vol) (g.S.Shelf.meaning c.args.shelf.now) (g.S.Shelf.meaning c.loop-done.shelf) (g.S.Shelf.meaning c.zero_run.new.shelf) c.loop-done.invariant c.zero_run.ensures.goes c.in-Ok.ensures.cause c.zero_run.ensures.within c.in-Ok.ensures.ok

pub returns-in-Err-clause-goes : goal.returns-in-Err-clause-goes
returns-in-Err-clause-goes g c = zero_then c.args.config.now c.args.vol c.loop-done.done c.min-count.result (blocks_of c.args.config.now.volumes c.args.vol) (g.S.Shelf.meaning c.args.shelf.now) (g.S.Shelf.meaning c.loop-done.shelf) (g.S.Shelf.meaning c.zero_run.new.shelf) c.loop-done.invariant c.zero_run.ensures.goes

pub returns-clause-ok : goal.returns-clause-ok
returns-clause-ok g c = zero_end c.args.config.now c.args.vol c.loop-done.done (blocks_of c.args.config.now.volumes c.args.vol) c.blocks_of-blocks.result (g.S.Shelf.meaning c.args.shelf.now) (g.S.Shelf.meaning c.loop-done.shelf) c.loop-done.invariant c.blocks_of-blocks.ensures (omega (arith, c.loop-done-test.false))
