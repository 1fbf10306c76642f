-- The logging of the oldest updates, case by case.
use Rattle.std.proofs.Common.{ℕ, subst, take, arith}
use Rattle.std.proofs.lemmas.Result.{err_from_is_err_and}
use Rattle.vx_secondary.specs.Logging.{LogsAll}
use Rattle.vx_secondary.specs.Receivers.{writes_of_updates}
use Rattle.vx_secondary.proofs.Waits.{all_steps, logged_next, next_ends, stopped_waits}
use Rattle.vx_secondary.proofs.logging.log_oldest.Goals as goal

pub returns-in_err-log_one-clause-step : goal.returns-in_err-log_one-clause-step
returns-in_err-log_one-clause-step g c = all_steps c.args.waiting.now c.loop.counter c.args.count c.args.rvg.now.core c.loop.rvg.core c.log_one.new.rvg.core (g.S.Shelf.meaning c.args.rvg.now.shelf) (g.S.Shelf.meaning c.loop.rvg.shelf) (g.S.Shelf.meaning c.log_one.new.rvg.shelf) c.loop.waiting c.in-Some.update.now c.loop.invariant c.in-Some.ensures c.log_one.ensures.step c.loop-test.true c.requires.some

pub returns-in_err-log_one-clause-ends : goal.returns-in_err-log_one-clause-ends
returns-in_err-log_one-clause-ends g c =
    let p = err_from_is_err_and c.from_residual.result c.from_residual.ensures.1 in
    rw (p.1, p.2) (next_ends c.args.waiting.now c.loop.counter c.args.count c.args.rvg.now.core c.loop.rvg.core c.log_one.new.rvg.core (g.S.Shelf.meaning c.args.rvg.now.shelf) (g.S.Shelf.meaning c.loop.rvg.shelf) (g.S.Shelf.meaning c.log_one.new.rvg.shelf) c.loop.waiting c.in-Some.update.now c.loop.invariant c.in-Some.ensures c.log_one.ensures.step c.loop-test.true c.requires.some c.in_err-log_one.field-0.0 c.in_err-log_one.ensures.ends)

pub returns-in_err-log_one-clause-waits : goal.returns-in_err-log_one-clause-waits
returns-in_err-log_one-clause-waits g c = stopped_waits c.args.waiting.now c.loop.counter c.args.count c.args.rvg.now.core c.loop.rvg.core c.log_one.new.rvg.core (g.S.Shelf.meaning c.args.rvg.now.shelf) (g.S.Shelf.meaning c.loop.rvg.shelf) (g.S.Shelf.meaning c.log_one.new.rvg.shelf) c.loop.waiting c.in-Some.update.now c.loop.invariant c.in-Some.ensures c.log_one.ensures.step c.loop-test.true c.requires.some c.in_err-log_one.ensures.ends.0

pub loop-preserved : goal.loop-preserved
loop-preserved g c = logged_next c.args.waiting.now c.loop.counter c.args.count c.args.rvg.now.core c.loop.rvg.core c.log_one.new.rvg.core (g.S.Shelf.meaning c.args.rvg.now.shelf) (g.S.Shelf.meaning c.loop.rvg.shelf) (g.S.Shelf.meaning c.log_one.new.rvg.shelf) c.loop.waiting c.in-Some.update.now c.loop.invariant c.in-Some.ensures c.log_one.ensures.step c.loop-test.true c.requires.some c.in_ok-log_one.ensures.logs c.pop.new.self c.pop.ensures

pub returns-clause-logs : goal.returns-clause-logs
returns-clause-logs g c =
    subst (λ (n : ℕ). LogsAll (writes_of_updates (take n c.args.waiting.now)) c.args.rvg.now.core c.loop.rvg.core (g.S.Shelf.meaning c.args.rvg.now.shelf) (g.S.Shelf.meaning c.loop.rvg.shelf)) (omega (arith, c.loop-test.false, c.loop.auto.counter-end)) c.loop.invariant.logs
