-- Each block of a unit is written as it reads.
use Rattle.std.proofs.Common.{Err, arith}
use Rattle.vx_disk.proofs.Runs.{then_nothing}
use Rattle.vx_ground.specs.Rewrites.{WasLeft}
use Rattle.vx_ground.proofs.RewriteLemmas.{loop_cause, loop_left, loop_more, loop_none, on_goes}
use Rattle.vx_ground.proofs.writing_over.write_over.Goals as goal

pub loop-done-init : goal.loop-done-init
loop-done-init g c = loop_none c.args.unit (g.S.Shelf.meaning c.args.shelf.now) c.size-blocks.result

pub write_run-requires : goal.write_run-requires
write_run-requires g c = record {
  some = let low = c.loop-done-test.true in omega (arith, low, c.min-count.ensures);
  few = omega (arith, c.min-count.ensures);
  there = let units = c.loop-done.invariant.goes.units in let low = c.requires.there in omega (arith, units, low);
  within = let size = c.loop-done.invariant.goes.size c.args.unit in let low = c.loop-done-test.true in omega (arith, size, low, c.size-blocks.ensures, c.min-count.ensures);
}

pub loop-done-preserved : goal.loop-done-preserved
loop-done-preserved g c =
    loop_more c.args.unit (g.S.Shelf.meaning c.args.shelf.now) (g.S.Shelf.meaning c.loop-done.shelf) (g.S.Shelf.meaning c.write_run.new.shelf) c.loop-done.done c.size-blocks.result c.loop-done.invariant c.min-count.result
    c.write_run.ensures.goes c.in-Ok.ensures.ok (let low = c.loop-done-test.true in omega (arith, low, c.min-count.ensures))

pub returns-in-Err-clause-goes : goal.returns-in-Err-clause-goes
returns-in-Err-clause-goes g c = on_goes c.args.unit (g.S.Shelf.meaning c.args.shelf.now) (g.S.Shelf.meaning c.loop-done.shelf) (g.S.Shelf.meaning c.write_run.new.shelf) c.loop-done.invariant.goes c.write_run.ensures.goes

pub returns-in-Err-clause-cause : goal.returns-in-Err-clause-cause
returns-in-Err-clause-cause g c = loop_cause c.args.unit (g.S.Shelf.meaning c.args.shelf.now) (g.S.Shelf.meaning c.loop-done.shelf) (g.S.Shelf.meaning c.write_run.new.shelf) c.loop-done.done c.size-blocks.result c.loop-done.invariant {T = Unit {0}} (Err c.in-Err.error) c.in-Err.ensures.cause

pub flush-requires : goal.flush-requires
flush-requires g c = let units = c.loop-done.invariant.goes.units in let low = c.requires.there in omega (arith, units, low)

pub returns-clause-goes : goal.returns-clause-goes
returns-clause-goes g c = then_nothing (WasLeft c.args.unit (g.S.Shelf.meaning c.args.shelf.now)) (g.S.Shelf.meaning c.args.shelf.now) (g.S.Shelf.meaning c.loop-done.shelf) (g.S.Shelf.meaning c.flush.new.self) c.loop-done.invariant.goes c.flush.ensures.goes

pub returns-clause-cause : goal.returns-clause-cause
returns-clause-cause g c = loop_cause c.args.unit (g.S.Shelf.meaning c.args.shelf.now) (g.S.Shelf.meaning c.loop-done.shelf) (g.S.Shelf.meaning c.flush.new.self) c.loop-done.done c.size-blocks.result c.loop-done.invariant c.flush.result c.flush.ensures.cause

pub returns-clause-one : goal.returns-clause-one
returns-clause-one g c =
    loop_left c.flush.result c.args.unit (g.S.Shelf.meaning c.args.shelf.now) (g.S.Shelf.meaning c.loop-done.shelf) (g.S.Shelf.meaning c.flush.new.self) c.loop-done.done c.size-blocks.result c.loop-done.invariant c.size-blocks.ensures (omega (arith, c.loop-done-test.false)) c.flush.ensures.goes c.flush.ensures.ok
