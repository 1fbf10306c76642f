-- Room in the log of a receiver, case by case.
use Rattle.std.proofs.Common.{[]}
use Rattle.std.proofs.lemmas.Result.{IfErr-weaker, err_from_is_err_and, on_ok_weaker}
use Rattle.vx_secondary.proofs.Rooms.{applied_step, applied_logs, applied_ends}
use Rattle.vx_secondary.proofs.Steps.{step_then, logs_then}
use Rattle.vx_secondary.proofs.Writings.{ends_later}
use Rattle.vx_secondary.proofs.room.make_room.Goals as goal

pub returns-in_err-apply-clause-step : goal.returns-in_err-apply-clause-step
returns-in_err-apply-clause-step g c =
    applied_step c.args.rvg.now.core c.apply.new.self.core (g.S.Shelf.meaning c.args.rvg.now.shelf) (g.S.Shelf.meaning c.apply.new.self.shelf) c.head-last.result c.requires.running []
    c.apply.result c.apply.ensures.answers c.apply.ensures.moves

pub returns-in_err-apply-clause-ends : goal.returns-in_err-apply-clause-ends
returns-in_err-apply-clause-ends g c =
    let p = err_from_is_err_and c.from_residual.result c.from_residual.ensures.1 in
    rw (p.1, p.2)
    (applied_ends c.args.rvg.now.core c.apply.new.self.core (g.S.Shelf.meaning c.args.rvg.now.shelf) (g.S.Shelf.meaning c.apply.new.self.shelf) c.head-last.result c.requires.running
    c.in_err-apply.field-0.0 c.in_err-apply.ensures.answers)

pub returns-clause-step : goal.returns-clause-step
returns-clause-step g c =
    let one = applied_step c.args.rvg.now.core c.apply.new.self.core (g.S.Shelf.meaning c.args.rvg.now.shelf) (g.S.Shelf.meaning c.apply.new.self.shelf) c.head-last.result c.requires.running [] c.apply.result c.apply.ensures.answers c.apply.ensures.moves in
    let logs = applied_logs c.args.rvg.now.core c.apply.new.self.core (g.S.Shelf.meaning c.args.rvg.now.shelf) (g.S.Shelf.meaning c.apply.new.self.shelf) c.head-last.result c.requires.running c.in_ok-apply.field-0 c.in_ok-apply.ensures.answers c.in_ok-apply.ensures.stands in
    step_then [] [] c.args.rvg.now.core c.apply.new.self.core c.give_up.new.rvg.core (g.S.Shelf.meaning c.args.rvg.now.shelf) (g.S.Shelf.meaning c.apply.new.self.shelf) (g.S.Shelf.meaning c.give_up.new.rvg.shelf) one logs c.give_up.ensures.step

pub returns-clause-logs : goal.returns-clause-logs
returns-clause-logs g c =
    let logs = applied_logs c.args.rvg.now.core c.apply.new.self.core (g.S.Shelf.meaning c.args.rvg.now.shelf) (g.S.Shelf.meaning c.apply.new.self.shelf) c.head-last.result c.requires.running c.in_ok-apply.field-0 c.in_ok-apply.ensures.answers c.in_ok-apply.ensures.stands in
    on_ok_weaker c.give_up.result
    (λ more. logs_then [] [] c.args.rvg.now.core c.apply.new.self.core c.give_up.new.rvg.core (g.S.Shelf.meaning c.args.rvg.now.shelf) (g.S.Shelf.meaning c.apply.new.self.shelf) (g.S.Shelf.meaning c.give_up.new.rvg.shelf) logs more)
    c.give_up.ensures.logs

pub returns-clause-ends : goal.returns-clause-ends
returns-clause-ends g c =
    let logs = applied_logs c.args.rvg.now.core c.apply.new.self.core (g.S.Shelf.meaning c.args.rvg.now.shelf) (g.S.Shelf.meaning c.apply.new.self.shelf) c.head-last.result c.requires.running c.in_ok-apply.field-0 c.in_ok-apply.ensures.answers c.in_ok-apply.ensures.stands in
    IfErr-weaker c.give_up.result _ _
    (λ w ends. ends_later 0 0 c.args.rvg.now.core c.apply.new.self.core c.give_up.new.rvg.core (g.S.Shelf.meaning c.args.rvg.now.shelf) (g.S.Shelf.meaning c.apply.new.self.shelf) (g.S.Shelf.meaning c.give_up.new.rvg.shelf) w logs.last c.apply.ensures.moves.disk_faults ends)
    c.give_up.ensures.ends
