-- The apply of a receiver, case by case.
use Rattle.std.proofs.Common.{◌∙◌, ℕ, List, length, ap, subst}
use Rattle.std.specs.Prelude.{min}
use Rattle.vx_model.specs.declared.call.Update.{Update}
use Rattle.vx_secondary.specs.Logging.{LogsAll, Step}
use Rattle.vx_secondary.specs.Receivers.{writes_of_updates}
use Rattle.vx_secondary.proofs.Waits.{few_are, first_of_few}
use Rattle.vx_secondary.proofs.secondary.Secondary.apply.Goals as goal

pub returns-in_err-log_and_apply-clause-step : goal.returns-in_err-log_and_apply-clause-step
returns-in_err-log_and_apply-clause-step g c =
    subst (λ (us : List Update). Step (writes_of_updates us) c.args.self.now.rvg.core c.log_and_apply.new.rvg.core (g.S.Shelf.meaning c.args.self.now.rvg.shelf) (g.S.Shelf.meaning c.log_and_apply.new.rvg.shelf)) (first_of_few c.args.count c.min-count.result c.args.self.now.waiting (few_are c.args.count c.min-few.result c.min-count.result (length c.args.self.now.waiting) c.min-few.ensures (c.min-count.ensures ∙ ap (λ (n : ℕ). min c.min-few.result n) c.len.ensures.is) c.args.self.now.waits.few)) c.log_and_apply.ensures.step

pub returns-clause-logs : goal.returns-clause-logs
returns-clause-logs g c =
    subst (λ (us : List Update). LogsAll (writes_of_updates us) c.args.self.now.rvg.core c.log_and_apply.new.rvg.core (g.S.Shelf.meaning c.args.self.now.rvg.shelf) (g.S.Shelf.meaning c.log_and_apply.new.rvg.shelf)) (first_of_few c.args.count c.min-count.result c.args.self.now.waiting (few_are c.args.count c.min-few.result c.min-count.result (length c.args.self.now.waiting) c.min-few.ensures (c.min-count.ensures ∙ ap (λ (n : ℕ). min c.min-few.result n) c.len.ensures.is) c.args.self.now.waits.few)) c.in_ok-log_and_apply.ensures.logs

pub returns-clause-step : goal.returns-clause-step
returns-clause-step g c =
    subst (λ (us : List Update). Step (writes_of_updates us) c.args.self.now.rvg.core c.log_and_apply.new.rvg.core (g.S.Shelf.meaning c.args.self.now.rvg.shelf) (g.S.Shelf.meaning c.log_and_apply.new.rvg.shelf)) (first_of_few c.args.count c.min-count.result c.args.self.now.waiting (few_are c.args.count c.min-few.result c.min-count.result (length c.args.self.now.waiting) c.min-few.ensures (c.min-count.ensures ∙ ap (λ (n : ℕ). min c.min-few.result n) c.len.ensures.is) c.args.self.now.waits.few)) c.log_and_apply.ensures.step
