-- The logging and applying of the oldest updates, case by case.
use Rattle.std.proofs.Common.{ℕ, List, [], length, subst, take, arith, append-nil}
use Rattle.std.proofs.lemmas.Result.{err_from_is_err_and}
use Rattle.vx_model.specs.Content.{Write}
use Rattle.vx_secondary.specs.Logging.{EndsLogging, LogsAll, Step}
use Rattle.vx_secondary.specs.Receivers.{writes_of_updates}
use Rattle.vx_secondary.proofs.Rooms.{applied_step, applied_logs, applied_ends, applied_all}
use Rattle.vx_secondary.proofs.Steps.{step_then, logs_then}
use Rattle.vx_secondary.proofs.Waits.{count_taken}
use Rattle.vx_secondary.proofs.Writings.{ends_later}
use Rattle.vx_secondary.proofs.apply.log_and_apply.Goals as goal

pub returns-in_err-apply-clause-step : goal.returns-in_err-apply-clause-step
returns-in_err-apply-clause-step g c =
    subst (λ (xs : List Write). Step xs c.args.rvg.now.core c.apply.new.self.core (g.S.Shelf.meaning c.args.rvg.now.shelf) (g.S.Shelf.meaning c.apply.new.self.shelf)) (append-nil (writes_of_updates (take c.args.count c.args.waiting.now)))
    (step_then (writes_of_updates (take c.args.count c.args.waiting.now)) [] c.args.rvg.now.core c.log_oldest.new.rvg.core c.apply.new.self.core (g.S.Shelf.meaning c.args.rvg.now.shelf) (g.S.Shelf.meaning c.log_oldest.new.rvg.shelf) (g.S.Shelf.meaning c.apply.new.self.shelf) c.log_oldest.ensures.step c.in_ok-log_oldest.ensures.logs
    (applied_step c.log_oldest.new.rvg.core c.apply.new.self.core (g.S.Shelf.meaning c.log_oldest.new.rvg.shelf) (g.S.Shelf.meaning c.apply.new.self.shelf) c.head-last.result c.in_ok-log_oldest.ensures.logs.running [] c.apply.result c.apply.ensures.answers c.apply.ensures.moves))

pub returns-in_err-apply-clause-ends : goal.returns-in_err-apply-clause-ends
returns-in_err-apply-clause-ends g c =
    let p = err_from_is_err_and c.from_residual-in_err-apply.result c.from_residual-in_err-apply.ensures.1 in
    rw (p.1, p.2) (
      c.args.count,
      (
        omega arith,
        (
          c.in_ok-log_oldest.ensures.left,
          subst (λ (n : ℕ). EndsLogging n c.args.rvg.now.core c.apply.new.self.core (g.S.Shelf.meaning c.args.rvg.now.shelf) (g.S.Shelf.meaning c.apply.new.self.shelf) c.in_err-apply.field-0.0) (omega (arith, count_taken c.args.count c.args.waiting.now c.requires.some))
              (ends_later (length (writes_of_updates (take c.args.count c.args.waiting.now))) 0 c.args.rvg.now.core c.log_oldest.new.rvg.core c.apply.new.self.core (g.S.Shelf.meaning c.args.rvg.now.shelf) (g.S.Shelf.meaning c.log_oldest.new.rvg.shelf) (g.S.Shelf.meaning c.apply.new.self.shelf) c.in_err-apply.field-0.0 c.in_ok-log_oldest.ensures.logs.last c.log_oldest.ensures.step.moves.disk_faults
              (applied_ends c.log_oldest.new.rvg.core c.apply.new.self.core (g.S.Shelf.meaning c.log_oldest.new.rvg.shelf) (g.S.Shelf.meaning c.apply.new.self.shelf) c.head-last.result c.in_ok-log_oldest.ensures.logs.running c.in_err-apply.field-0.0 c.in_err-apply.ensures.answers)),
        ),
      ),
    )

pub returns-clause-step : goal.returns-clause-step
returns-clause-step g c =
    subst (λ (xs : List Write). Step xs c.args.rvg.now.core c.apply.new.self.core (g.S.Shelf.meaning c.args.rvg.now.shelf) (g.S.Shelf.meaning c.apply.new.self.shelf)) (append-nil (writes_of_updates (take c.args.count c.args.waiting.now)))
    (step_then (writes_of_updates (take c.args.count c.args.waiting.now)) [] c.args.rvg.now.core c.log_oldest.new.rvg.core c.apply.new.self.core (g.S.Shelf.meaning c.args.rvg.now.shelf) (g.S.Shelf.meaning c.log_oldest.new.rvg.shelf) (g.S.Shelf.meaning c.apply.new.self.shelf) c.log_oldest.ensures.step c.in_ok-log_oldest.ensures.logs
    (applied_step c.log_oldest.new.rvg.core c.apply.new.self.core (g.S.Shelf.meaning c.log_oldest.new.rvg.shelf) (g.S.Shelf.meaning c.apply.new.self.shelf) c.head-last.result c.in_ok-log_oldest.ensures.logs.running [] c.apply.result c.apply.ensures.answers c.apply.ensures.moves))

pub returns-clause-logs : goal.returns-clause-logs
returns-clause-logs g c =
    subst (λ (xs : List Write). LogsAll xs c.args.rvg.now.core c.apply.new.self.core (g.S.Shelf.meaning c.args.rvg.now.shelf) (g.S.Shelf.meaning c.apply.new.self.shelf)) (append-nil (writes_of_updates (take c.args.count c.args.waiting.now)))
    (logs_then (writes_of_updates (take c.args.count c.args.waiting.now)) [] c.args.rvg.now.core c.log_oldest.new.rvg.core c.apply.new.self.core (g.S.Shelf.meaning c.args.rvg.now.shelf) (g.S.Shelf.meaning c.log_oldest.new.rvg.shelf) (g.S.Shelf.meaning c.apply.new.self.shelf) c.in_ok-log_oldest.ensures.logs
    (applied_logs c.log_oldest.new.rvg.core c.apply.new.self.core (g.S.Shelf.meaning c.log_oldest.new.rvg.shelf) (g.S.Shelf.meaning c.apply.new.self.shelf) c.head-last.result c.in_ok-log_oldest.ensures.logs.running c.in_ok-apply.field-0 c.in_ok-apply.ensures.answers c.in_ok-apply.ensures.stands))

pub returns-clause-applied : goal.returns-clause-applied
returns-clause-applied g c = applied_all c.log_oldest.new.rvg.core c.apply.new.self.core (g.S.Shelf.meaning c.log_oldest.new.rvg.shelf) (g.S.Shelf.meaning c.apply.new.self.shelf) c.head-last.result c.in_ok-log_oldest.ensures.logs.running c.in_ok-apply.field-0 c.in_ok-apply.ensures.answers c.head-last.ensures
