-- The mark of a receiver, case by case.
use Rattle.std.proofs.Common.{◌∙◌, ◌+◌, ap, subst, sym}
use Rattle.vx_model.specs.declared.state.State.{State as SiteState}
use Rattle.vx_disk.specs.Moves.{Moves, Run}
use Rattle.vx_disk.proofs.Moving.{still}
use Rattle.vx_rvg.specs.Saves.{change_refusal, with_new_state}
use Rattle.vx_rvg.specs.Stands.{Saving}
use Rattle.vx_srlfmt.specs.Headers.{CanSpellState}
use Rattle.vx_regions.specs.Copies.{consistent_state}
use Rattle.vx_regions.proofs.Begins.{state_done, state_ends}
use Rattle.vx_regions.proofs.Closes.{mark_rests, mark_settles, mark_stays, rests_still, settled_wait, spelled_mark}
use Rattle.vx_regions.proofs.marking.settle_mark.Goals as goal

pub returns-in-Some-clause-moves : goal.returns-in-Some-clause-moves
returns-in-Some-clause-moves g c = still _ _ (g.S.Shelf.meaning c.args.secondary.now.rvg.shelf)

pub returns-then-not-is_due-clause-state : goal.returns-then-not-is_due-clause-state
returns-then-not-is_due-clause-state g c = mark_stays c.args.secondary.now.rvg.core c.args.secondary.now.waiting (sym c.is_due.ensures ∙ c.if-not-is_due.true)

pub returns-then-not-is_due-clause-stands : goal.returns-then-not-is_due-clause-stands
returns-then-not-is_due-clause-stands g c = rests_still c.args.secondary.now.rvg.core (g.S.Shelf.meaning c.args.secondary.now.rvg.shelf)

pub returns-then-not-is_due-clause-moves : goal.returns-then-not-is_due-clause-moves
returns-then-not-is_due-clause-moves g c = still _ _ (g.S.Shelf.meaning c.args.secondary.now.rvg.shelf)

pub change-requires-clause-state : goal.change-requires-clause-state
change-requires-clause-state g c = spelled_mark c.copy-state.result (subst (λ (s : SiteState). CanSpellState s) (sym c.copy-state.ensures) c.state.ensures.spelled)

pub change-requires-clause-line : goal.change-requires-clause-line
change-requires-clause-line g c = λ none. ap (λ (s : SiteState). s.line) (c.copy-state.ensures ∙ c.state.ensures.is)

pub invariant_of-secondary : goal.invariant_of-secondary
invariant_of-secondary g c = record {
  waits =
      settled_wait c.args.secondary.now.rvg.core c.change.new.self.core (consistent_state c.copy-state.result) (g.S.Shelf.meaning c.args.secondary.now.rvg.shelf) (g.S.Shelf.meaning c.change.new.self.shelf) c.change.ensures.moves.size c.args.secondary.now.waiting c.args.secondary.now.waits (ap (λ (s : SiteState). s.line) (c.copy-state.ensures ∙ c.state.ensures.is)) c.change.result c.change.ensures.answers;
}

pub returns-in-Ok-clause-unchanged : goal.returns-in-Ok-clause-unchanged
returns-in-Ok-clause-unchanged g c = λ running not. let wrong = sym (sym c.is_due.ensures ∙ c.if-not-is_due.false) ∙ not in cc

pub returns-in-Ok-clause-state : goal.returns-in-Ok-clause-state
returns-in-Ok-clause-state g c =
    mark_settles c.args.secondary.now.rvg.core c.change.new.self.core c.args.secondary.now.waiting (sym c.is_due.ensures ∙ c.if-not-is_due.false)
    (state_done c.args.secondary.now.rvg.core c.change.new.self.core (consistent_state c.copy-state.result) (g.S.Shelf.meaning c.args.secondary.now.rvg.shelf) (g.S.Shelf.meaning c.change.new.self.shelf) (change_refusal c.args.secondary.now.rvg.core) tt c.in-Ok.ensures.answers ∙ ap (λ (s : SiteState). with_new_state c.args.secondary.now.rvg.core (consistent_state s)) (c.copy-state.ensures ∙ c.state.ensures.is))

pub returns-in-Ok-clause-stands : goal.returns-in-Ok-clause-stands
returns-in-Ok-clause-stands g c = mark_rests c.args.secondary.now.rvg.core c.change.new.self.core (consistent_state c.copy-state.result) (g.S.Shelf.meaning c.args.secondary.now.rvg.shelf) (g.S.Shelf.meaning c.change.new.self.shelf) tt c.in-Ok.ensures.answers c.in-Ok.ensures.stands

pub returns-in-Ok-clause-moves : goal.returns-in-Ok-clause-moves
returns-in-Ok-clause-moves g c =
    subst (λ (s : SiteState). Moves (Run c.args.secondary.now.rvg.core.units.srl 0 (c.args.secondary.now.rvg.core.log.ring + 2)) (Saving c.args.secondary.now.rvg.core (with_new_state c.args.secondary.now.rvg.core (consistent_state s)) (g.S.Shelf.meaning c.args.secondary.now.rvg.shelf)) (g.S.Shelf.meaning c.args.secondary.now.rvg.shelf) (g.S.Shelf.meaning c.change.new.self.shelf)) (c.copy-state.ensures ∙ c.state.ensures.is) c.change.ensures.moves

pub returns-in-Err-clause-unchanged : goal.returns-in-Err-clause-unchanged
returns-in-Err-clause-unchanged g c = λ running not. let wrong = sym (sym c.is_due.ensures ∙ c.if-not-is_due.false) ∙ not in cc

pub returns-in-Err-clause-moves : goal.returns-in-Err-clause-moves
returns-in-Err-clause-moves g c =
    subst (λ (s : SiteState). Moves (Run c.args.secondary.now.rvg.core.units.srl 0 (c.args.secondary.now.rvg.core.log.ring + 2)) (Saving c.args.secondary.now.rvg.core (with_new_state c.args.secondary.now.rvg.core (consistent_state s)) (g.S.Shelf.meaning c.args.secondary.now.rvg.shelf)) (g.S.Shelf.meaning c.args.secondary.now.rvg.shelf) (g.S.Shelf.meaning c.change.new.self.shelf)) (c.copy-state.ensures ∙ c.state.ensures.is) c.change.ensures.moves

pub returns-in-Err-clause-ends : goal.returns-in-Err-clause-ends
returns-in-Err-clause-ends g c = λ running. state_ends c.args.secondary.now.rvg.core c.change.new.self.core (consistent_state c.copy-state.result) (g.S.Shelf.meaning c.args.secondary.now.rvg.shelf) (g.S.Shelf.meaning c.change.new.self.shelf) running c.in-Err.no c.in-Err.ensures.answers
