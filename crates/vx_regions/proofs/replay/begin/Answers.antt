-- The begin of a replay, case by case.
use Rattle.std.proofs.Common.{◌∙◌, List, refl, ap, arith, subst, sym}
use Rattle.vx_model.specs.declared.call.Update.{Update}
use Rattle.vx_model.specs.declared.limits.TheConstants.{MOST_WAITING}
use Rattle.vx_model.specs.declared.state.State.{State as SiteState}
use Rattle.vx_history.specs.declared.receiver.RState.{RState}
use Rattle.vx_rvg.specs.Saves.{change_refusal}
use Rattle.vx_secondary.specs.Logging.{EndsAfter, LogsAll, Step}
use Rattle.vx_secondary.specs.Receivers.{Wait, writes_of_updates}
use Rattle.vx_regions.specs.Copies.{BeginsCopy, BegunCopy, told_state}
use Rattle.vx_regions.proofs.Begins.{begin_done, begin_ends, begin_receiver, begin_step, begin_stopped, begin_told, drop_all, state_done, take_few, wait_none}
use Rattle.vx_regions.proofs.replay.begin.Goals as goal

pub state_of-state-requires-clause-end : goal.state_of-state-requires-clause-end
state_of-state-requires-clause-end g c = omega (arith, ap (λ (r : RState). r.end) c.requires.begins)

pub returns-in-Err-clause-ends : goal.returns-in-Err-clause-ends
returns-in-Err-clause-ends g c = c.in-Err.ensures.ends c.requires.running

pub returns-in-Err-clause-begins : goal.returns-in-Err-clause-begins
returns-in-Err-clause-begins g c = begin_stopped c.args.secondary.now.rvg.core c.apply.new.self.rvg.core c.args.secondary.now.waiting (writes_of_updates c.args.secondary.now.waiting) (told_state c.args.secondary.now.rvg.core.log.header.state c.args.told.now) (g.S.Shelf.meaning c.args.secondary.now.rvg.shelf) (g.S.Shelf.meaning c.apply.new.self.rvg.shelf) (subst (λ (ws : List Update). Step (writes_of_updates ws) c.args.secondary.now.rvg.core c.apply.new.self.rvg.core (g.S.Shelf.meaning c.args.secondary.now.rvg.shelf) (g.S.Shelf.meaning c.apply.new.self.rvg.shelf)) (take_few c.args.secondary.now.waiting c.args.secondary.now.waits.few) c.apply.ensures.step)

pub returns-in-Ok-clause-state : goal.returns-in-Ok-clause-state
returns-in-Ok-clause-state g c =
    begin_receiver c.args.secondary.now.rvg.core c.apply.new.self.rvg.core c.change.new.self.core c.args.secondary.now.waiting c.apply.new.self.waiting c.args.told.now c.state_of-state.result (g.S.Shelf.meaning c.args.secondary.now.rvg.shelf) (g.S.Shelf.meaning c.apply.new.self.rvg.shelf) (subst (λ (ws : List Update). Step (writes_of_updates ws) c.args.secondary.now.rvg.core c.apply.new.self.rvg.core (g.S.Shelf.meaning c.args.secondary.now.rvg.shelf) (g.S.Shelf.meaning c.apply.new.self.rvg.shelf)) (take_few c.args.secondary.now.waiting c.args.secondary.now.waits.few) c.apply.ensures.step) (subst (λ (ws : List Update). LogsAll (writes_of_updates ws) c.args.secondary.now.rvg.core c.apply.new.self.rvg.core (g.S.Shelf.meaning c.args.secondary.now.rvg.shelf) (g.S.Shelf.meaning c.apply.new.self.rvg.shelf)) (take_few c.args.secondary.now.waiting c.args.secondary.now.waits.few) c.in_default.ensures.logs) (c.in_default.ensures.left ∙ drop_all MOST_WAITING c.args.secondary.now.waiting c.args.secondary.now.waits.few) c.requires.begins c.state_of-state.ensures.is
    (state_done c.apply.new.self.rvg.core c.change.new.self.core c.state_of-state.result (g.S.Shelf.meaning c.apply.new.self.rvg.shelf) (g.S.Shelf.meaning c.change.new.self.shelf) (change_refusal c.apply.new.self.rvg.core) tt c.in-Ok.ensures.answers)

pub returns-in-Ok-clause-begun : goal.returns-in-Ok-clause-begun
returns-in-Ok-clause-begun g c =
    subst (λ (s : SiteState). BegunCopy (writes_of_updates c.args.secondary.now.waiting) s c.args.secondary.now.rvg.core c.change.new.self.core (g.S.Shelf.meaning c.args.secondary.now.rvg.shelf) (g.S.Shelf.meaning c.change.new.self.shelf)) (begin_told c.args.secondary.now.rvg.core c.apply.new.self.rvg.core c.args.told.now c.state_of-state.result (c.apply.ensures.step).same c.state_of-state.ensures.is)
    (begin_done c.args.secondary.now.rvg.core c.apply.new.self.rvg.core c.args.secondary.now.waiting (writes_of_updates c.args.secondary.now.waiting) c.state_of-state.result (g.S.Shelf.meaning c.args.secondary.now.rvg.shelf) (g.S.Shelf.meaning c.apply.new.self.rvg.shelf) (subst (λ (ws : List Update). Step (writes_of_updates ws) c.args.secondary.now.rvg.core c.apply.new.self.rvg.core (g.S.Shelf.meaning c.args.secondary.now.rvg.shelf) (g.S.Shelf.meaning c.apply.new.self.rvg.shelf)) (take_few c.args.secondary.now.waiting c.args.secondary.now.waits.few) c.apply.ensures.step) c.change.new.self.core (g.S.Shelf.meaning c.change.new.self.shelf) (subst (λ (ws : List Update). LogsAll (writes_of_updates ws) c.args.secondary.now.rvg.core c.apply.new.self.rvg.core (g.S.Shelf.meaning c.args.secondary.now.rvg.shelf) (g.S.Shelf.meaning c.apply.new.self.rvg.shelf)) (take_few c.args.secondary.now.waiting c.args.secondary.now.waits.few) c.in_default.ensures.logs) tt c.in-Ok.ensures.answers c.in-Ok.ensures.stands)

pub returns-in-Ok-clause-left : goal.returns-in-Ok-clause-left
returns-in-Ok-clause-left g c = (c.in_default.ensures.left ∙ drop_all MOST_WAITING c.args.secondary.now.waiting c.args.secondary.now.waits.few)

pub returns-in-Ok-clause-begins : goal.returns-in-Ok-clause-begins
returns-in-Ok-clause-begins g c =
    subst (λ (s : SiteState). BeginsCopy (writes_of_updates c.args.secondary.now.waiting) s c.args.secondary.now.rvg.core c.change.new.self.core (g.S.Shelf.meaning c.args.secondary.now.rvg.shelf) (g.S.Shelf.meaning c.change.new.self.shelf)) (begin_told c.args.secondary.now.rvg.core c.apply.new.self.rvg.core c.args.told.now c.state_of-state.result (c.apply.ensures.step).same c.state_of-state.ensures.is)
    (begin_step c.args.secondary.now.rvg.core c.apply.new.self.rvg.core c.args.secondary.now.waiting (writes_of_updates c.args.secondary.now.waiting) c.state_of-state.result (g.S.Shelf.meaning c.args.secondary.now.rvg.shelf) (g.S.Shelf.meaning c.apply.new.self.rvg.shelf) (subst (λ (ws : List Update). Step (writes_of_updates ws) c.args.secondary.now.rvg.core c.apply.new.self.rvg.core (g.S.Shelf.meaning c.args.secondary.now.rvg.shelf) (g.S.Shelf.meaning c.apply.new.self.rvg.shelf)) (take_few c.args.secondary.now.waiting c.args.secondary.now.waits.few) c.apply.ensures.step) c.change.new.self.core (g.S.Shelf.meaning c.change.new.self.shelf) (subst (λ (ws : List Update). LogsAll (writes_of_updates ws) c.args.secondary.now.rvg.core c.apply.new.self.rvg.core (g.S.Shelf.meaning c.args.secondary.now.rvg.shelf) (g.S.Shelf.meaning c.apply.new.self.rvg.shelf)) (take_few c.args.secondary.now.waiting c.args.secondary.now.waits.few) c.in_default.ensures.logs) c.change.result c.change.ensures.answers c.change.ensures.moves)

pub returns-in-Err-change-clause-ends : goal.returns-in-Err-change-clause-ends
returns-in-Err-change-clause-ends g c =
    subst (λ (ws : List Update). EndsAfter MOST_WAITING c.args.secondary.now.waiting ws c.args.secondary.now.rvg.core c.change.new.self.core (g.S.Shelf.meaning c.args.secondary.now.rvg.shelf) (g.S.Shelf.meaning c.change.new.self.shelf) c.in-Err-change.no) (sym (c.in_default.ensures.left ∙ drop_all MOST_WAITING c.args.secondary.now.waiting c.args.secondary.now.waits.few))
    (begin_ends c.args.secondary.now.rvg.core c.apply.new.self.rvg.core c.args.secondary.now.waiting (writes_of_updates c.args.secondary.now.waiting) c.state_of-state.result (g.S.Shelf.meaning c.args.secondary.now.rvg.shelf) (g.S.Shelf.meaning c.apply.new.self.rvg.shelf) (subst (λ (ws : List Update). Step (writes_of_updates ws) c.args.secondary.now.rvg.core c.apply.new.self.rvg.core (g.S.Shelf.meaning c.args.secondary.now.rvg.shelf) (g.S.Shelf.meaning c.apply.new.self.rvg.shelf)) (take_few c.args.secondary.now.waiting c.args.secondary.now.waits.few) c.apply.ensures.step) c.change.new.self.core (g.S.Shelf.meaning c.change.new.self.shelf) (subst (λ (ws : List Update). LogsAll (writes_of_updates ws) c.args.secondary.now.rvg.core c.apply.new.self.rvg.core (g.S.Shelf.meaning c.args.secondary.now.rvg.shelf) (g.S.Shelf.meaning c.apply.new.self.rvg.shelf)) (take_few c.args.secondary.now.waiting c.args.secondary.now.waits.few) c.in_default.ensures.logs) refl c.args.secondary.now.waits.few c.in-Err-change.no c.in-Err-change.ensures.answers)

pub returns-in-Err-change-clause-begins : goal.returns-in-Err-change-clause-begins
returns-in-Err-change-clause-begins g c =
    subst (λ (s : SiteState). BeginsCopy (writes_of_updates c.args.secondary.now.waiting) s c.args.secondary.now.rvg.core c.change.new.self.core (g.S.Shelf.meaning c.args.secondary.now.rvg.shelf) (g.S.Shelf.meaning c.change.new.self.shelf)) (begin_told c.args.secondary.now.rvg.core c.apply.new.self.rvg.core c.args.told.now c.state_of-state.result (c.apply.ensures.step).same c.state_of-state.ensures.is)
    (begin_step c.args.secondary.now.rvg.core c.apply.new.self.rvg.core c.args.secondary.now.waiting (writes_of_updates c.args.secondary.now.waiting) c.state_of-state.result (g.S.Shelf.meaning c.args.secondary.now.rvg.shelf) (g.S.Shelf.meaning c.apply.new.self.rvg.shelf) (subst (λ (ws : List Update). Step (writes_of_updates ws) c.args.secondary.now.rvg.core c.apply.new.self.rvg.core (g.S.Shelf.meaning c.args.secondary.now.rvg.shelf) (g.S.Shelf.meaning c.apply.new.self.rvg.shelf)) (take_few c.args.secondary.now.waiting c.args.secondary.now.waits.few) c.apply.ensures.step) c.change.new.self.core (g.S.Shelf.meaning c.change.new.self.shelf) (subst (λ (ws : List Update). LogsAll (writes_of_updates ws) c.args.secondary.now.rvg.core c.apply.new.self.rvg.core (g.S.Shelf.meaning c.args.secondary.now.rvg.shelf) (g.S.Shelf.meaning c.apply.new.self.rvg.shelf)) (take_few c.args.secondary.now.waiting c.args.secondary.now.waits.few) c.in_default.ensures.logs) c.change.result c.change.ensures.answers c.change.ensures.moves)

pub invariant_of-secondary : goal.invariant_of-secondary
invariant_of-secondary g c = record {
  waits = subst (λ (ws : List Update). Wait c.change.new.self.core (g.S.Shelf.meaning c.change.new.self.shelf).size ws) (sym (c.in_default.ensures.left ∙ drop_all MOST_WAITING c.args.secondary.now.waiting c.args.secondary.now.waits.few)) (wait_none c.change.new.self.core (g.S.Shelf.meaning c.change.new.self.shelf).size);
}
