-- The end of a replay's copying, by what the rule says of it.
use Rattle.std.proofs.Common.{◌≡◌, ℕ, arith, subst, sym}
use Rattle.std.specs.Prelude.{Some, Err, IfErr, IfOk, OnOk}
use Rattle.vx_disk.specs.Moves.{Moves}
use Rattle.vx_disk.proofs.Moving.{still}
use Rattle.vx_history.specs.declared.receiver.RState.{RState}
use Rattle.vx_replay.specs.Secondary.{secondary_step}
use Rattle.vx_replay.specs.declared.event.QAction.{QAction}
use Rattle.vx_replay.specs.declared.event.QAction.TheVariants.{Close}
use Rattle.vx_replay.specs.declared.event.QEvent.TheVariants.{Done as HearDone}
use Rattle.vx_rvg.specs.Saves.{RestartIs, change_blocks, restart_refusal, with_restart}
use Rattle.vx_rvg.specs.Stands.{Saving}
use Rattle.vx_secondary.specs.Receivers.{receiver_of}
use Rattle.vx_regions.specs.Copies.{told_state}
use Rattle.vx_regions.proofs.Begins.{heard_action, heard_state}
use Rattle.vx_regions.proofs.Closes.{close_asked}
use Rattle.vx_regions.proofs.replay.close_replay.Goals as goal

pub returns-in-Some-clause-moves : goal.returns-in-Some-clause-moves
returns-in-Some-clause-moves g c = still _ _ (g.S.Shelf.meaning c.args.secondary.now.rvg.shelf)

pub close-requires-clause-replay : goal.close-requires-clause-replay
close-requires-clause-replay g c = omega (arith, c.requires.replay, (close_asked (receiver_of c.args.secondary.now.rvg.core c.args.secondary.now.waiting) c.args.line.now c.args.id c.args.start c.args.end c.secondary.new.state (heard_action c.receiver-told.result (receiver_of c.args.secondary.now.rvg.core c.args.secondary.now.waiting) c.receiver-told.ensures (HearDone c.args.line.now c.args.id c.args.start c.args.end) Close c.in-Close.ensures.action) (heard_state c.receiver-told.result (receiver_of c.args.secondary.now.rvg.core c.args.secondary.now.waiting) c.receiver-told.ensures (HearDone c.args.line.now c.args.id c.args.start c.args.end) c.secondary.new.state c.in-Close.ensures.state)).1)

pub close-requires-clause-start : goal.close-requires-clause-start
close-requires-clause-start g c = omega (arith, c.requires.start, (close_asked (receiver_of c.args.secondary.now.rvg.core c.args.secondary.now.waiting) c.args.line.now c.args.id c.args.start c.args.end c.secondary.new.state (heard_action c.receiver-told.result (receiver_of c.args.secondary.now.rvg.core c.args.secondary.now.waiting) c.receiver-told.ensures (HearDone c.args.line.now c.args.id c.args.start c.args.end) Close c.in-Close.ensures.action) (heard_state c.receiver-told.result (receiver_of c.args.secondary.now.rvg.core c.args.secondary.now.waiting) c.receiver-told.ensures (HearDone c.args.line.now c.args.id c.args.start c.args.end) c.secondary.new.state c.in-Close.ensures.state)).2)

pub close-requires-clause-end : goal.close-requires-clause-end
close-requires-clause-end g c = omega (arith, c.requires.end, (close_asked (receiver_of c.args.secondary.now.rvg.core c.args.secondary.now.waiting) c.args.line.now c.args.id c.args.start c.args.end c.secondary.new.state (heard_action c.receiver-told.result (receiver_of c.args.secondary.now.rvg.core c.args.secondary.now.waiting) c.receiver-told.ensures (HearDone c.args.line.now c.args.id c.args.start c.args.end) Close c.in-Close.ensures.action) (heard_state c.receiver-told.result (receiver_of c.args.secondary.now.rvg.core c.args.secondary.now.waiting) c.receiver-told.ensures (HearDone c.args.line.now c.args.id c.args.start c.args.end) c.secondary.new.state c.in-Close.ensures.state)).3)

pub close-requires-clause-closes : goal.close-requires-clause-closes
close-requires-clause-closes g c = (close_asked (receiver_of c.args.secondary.now.rvg.core c.args.secondary.now.waiting) c.args.line.now c.args.id c.args.start c.args.end c.secondary.new.state (heard_action c.receiver-told.result (receiver_of c.args.secondary.now.rvg.core c.args.secondary.now.waiting) c.receiver-told.ensures (HearDone c.args.line.now c.args.id c.args.start c.args.end) Close c.in-Close.ensures.action) (heard_state c.receiver-told.result (receiver_of c.args.secondary.now.rvg.core c.args.secondary.now.waiting) c.receiver-told.ensures (HearDone c.args.line.now c.args.id c.args.start c.args.end) c.secondary.new.state c.in-Close.ensures.state)).0

pub returns-in-Close-clause-action : goal.returns-in-Close-clause-action
returns-in-Close-clause-action g c = subst (λ (x : QAction). IfOk c.close.result (λ a. a ≡ x)) (heard_action c.receiver-told.result (receiver_of c.args.secondary.now.rvg.core c.args.secondary.now.waiting) c.receiver-told.ensures (HearDone c.args.line.now c.args.id c.args.start c.args.end) Close c.in-Close.ensures.action) c.close.ensures.action

pub returns-in-Close-clause-unchanged : goal.returns-in-Close-clause-unchanged
returns-in-Close-clause-unchanged g c = λ running not. absurd (not (sym (heard_action c.receiver-told.result (receiver_of c.args.secondary.now.rvg.core c.args.secondary.now.waiting) c.receiver-told.ensures (HearDone c.args.line.now c.args.id c.args.start c.args.end) Close c.in-Close.ensures.action)))

pub returns-in-Close-clause-state : goal.returns-in-Close-clause-state
returns-in-Close-clause-state g c = subst (λ (s : RState). OnOk c.close.result (receiver_of c.close.new.secondary.rvg.core c.close.new.secondary.waiting ≡ s)) (heard_state c.receiver-told.result (receiver_of c.args.secondary.now.rvg.core c.args.secondary.now.waiting) c.receiver-told.ensures (HearDone c.args.line.now c.args.id c.args.start c.args.end) c.secondary.new.state c.in-Close.ensures.state) c.close.ensures.state

pub returns-in-Close-clause-emptied : goal.returns-in-Close-clause-emptied
returns-in-Close-clause-emptied g c = λ action.
    subst (λ (n : ℕ). OnOk c.close.result (c.close.new.secondary.rvg.core ≡ with_restart c.args.secondary.now.rvg.core (told_state c.args.secondary.now.rvg.core.log.header.state (secondary_step (receiver_of c.args.secondary.now.rvg.core c.args.secondary.now.waiting) (HearDone c.args.line.now c.args.id c.args.start c.args.end)).state) n)) (close_asked (receiver_of c.args.secondary.now.rvg.core c.args.secondary.now.waiting) c.args.line.now c.args.id c.args.start c.args.end c.secondary.new.state (heard_action c.receiver-told.result (receiver_of c.args.secondary.now.rvg.core c.args.secondary.now.waiting) c.receiver-told.ensures (HearDone c.args.line.now c.args.id c.args.start c.args.end) Close c.in-Close.ensures.action) (heard_state c.receiver-told.result (receiver_of c.args.secondary.now.rvg.core c.args.secondary.now.waiting) c.receiver-told.ensures (HearDone c.args.line.now c.args.id c.args.start c.args.end) c.secondary.new.state c.in-Close.ensures.state)).2
    (subst (λ (s : RState). OnOk c.close.result (c.close.new.secondary.rvg.core ≡ with_restart c.args.secondary.now.rvg.core (told_state c.args.secondary.now.rvg.core.log.header.state s) c.secondary.new.state.last)) (heard_state c.receiver-told.result (receiver_of c.args.secondary.now.rvg.core c.args.secondary.now.waiting) c.receiver-told.ensures (HearDone c.args.line.now c.args.id c.args.start c.args.end) c.secondary.new.state c.in-Close.ensures.state) c.close.ensures.emptied)

pub returns-in-Close-clause-ends : goal.returns-in-Close-clause-ends
returns-in-Close-clause-ends g c = λ running.
    subst (λ (n : ℕ). IfErr c.close.result (λ why. RestartIs (restart_refusal c.args.secondary.now.rvg.core n) c.args.secondary.now.rvg.core (with_restart c.args.secondary.now.rvg.core (told_state c.args.secondary.now.rvg.core.log.header.state (secondary_step (receiver_of c.args.secondary.now.rvg.core c.args.secondary.now.waiting) (HearDone c.args.line.now c.args.id c.args.start c.args.end)).state) n) (g.S.Shelf.meaning c.args.secondary.now.rvg.shelf) (g.S.Shelf.meaning c.close.new.secondary.rvg.shelf) c.close.new.secondary.rvg.core (Err why))) (close_asked (receiver_of c.args.secondary.now.rvg.core c.args.secondary.now.waiting) c.args.line.now c.args.id c.args.start c.args.end c.secondary.new.state (heard_action c.receiver-told.result (receiver_of c.args.secondary.now.rvg.core c.args.secondary.now.waiting) c.receiver-told.ensures (HearDone c.args.line.now c.args.id c.args.start c.args.end) Close c.in-Close.ensures.action) (heard_state c.receiver-told.result (receiver_of c.args.secondary.now.rvg.core c.args.secondary.now.waiting) c.receiver-told.ensures (HearDone c.args.line.now c.args.id c.args.start c.args.end) c.secondary.new.state c.in-Close.ensures.state)).2
    (subst (λ (s : RState). IfErr c.close.result (λ why. RestartIs (restart_refusal c.args.secondary.now.rvg.core c.secondary.new.state.last) c.args.secondary.now.rvg.core (with_restart c.args.secondary.now.rvg.core (told_state c.args.secondary.now.rvg.core.log.header.state s) c.secondary.new.state.last) (g.S.Shelf.meaning c.args.secondary.now.rvg.shelf) (g.S.Shelf.meaning c.close.new.secondary.rvg.shelf) c.close.new.secondary.rvg.core (Err why))) (heard_state c.receiver-told.result (receiver_of c.args.secondary.now.rvg.core c.args.secondary.now.waiting) c.receiver-told.ensures (HearDone c.args.line.now c.args.id c.args.start c.args.end) c.secondary.new.state c.in-Close.ensures.state) c.close.ensures.ends)

pub returns-in-Close-clause-stands : goal.returns-in-Close-clause-stands
returns-in-Close-clause-stands g c = λ action. c.close.ensures.stands

pub returns-in-Close-clause-moves : goal.returns-in-Close-clause-moves
returns-in-Close-clause-moves g c =
    subst (λ (n : ℕ). Moves (change_blocks (Some n) c.args.secondary.now.rvg.core (g.S.Shelf.meaning c.args.secondary.now.rvg.shelf)) (Saving c.args.secondary.now.rvg.core (with_restart c.args.secondary.now.rvg.core (told_state c.args.secondary.now.rvg.core.log.header.state (secondary_step (receiver_of c.args.secondary.now.rvg.core c.args.secondary.now.waiting) (HearDone c.args.line.now c.args.id c.args.start c.args.end)).state) n) (g.S.Shelf.meaning c.args.secondary.now.rvg.shelf)) (g.S.Shelf.meaning c.args.secondary.now.rvg.shelf) (g.S.Shelf.meaning c.close.new.secondary.rvg.shelf)) (close_asked (receiver_of c.args.secondary.now.rvg.core c.args.secondary.now.waiting) c.args.line.now c.args.id c.args.start c.args.end c.secondary.new.state (heard_action c.receiver-told.result (receiver_of c.args.secondary.now.rvg.core c.args.secondary.now.waiting) c.receiver-told.ensures (HearDone c.args.line.now c.args.id c.args.start c.args.end) Close c.in-Close.ensures.action) (heard_state c.receiver-told.result (receiver_of c.args.secondary.now.rvg.core c.args.secondary.now.waiting) c.receiver-told.ensures (HearDone c.args.line.now c.args.id c.args.start c.args.end) c.secondary.new.state c.in-Close.ensures.state)).2
    (subst (λ (s : RState). Moves (change_blocks (Some c.secondary.new.state.last) c.args.secondary.now.rvg.core (g.S.Shelf.meaning c.args.secondary.now.rvg.shelf)) (Saving c.args.secondary.now.rvg.core (with_restart c.args.secondary.now.rvg.core (told_state c.args.secondary.now.rvg.core.log.header.state s) c.secondary.new.state.last) (g.S.Shelf.meaning c.args.secondary.now.rvg.shelf)) (g.S.Shelf.meaning c.args.secondary.now.rvg.shelf) (g.S.Shelf.meaning c.close.new.secondary.rvg.shelf)) (heard_state c.receiver-told.result (receiver_of c.args.secondary.now.rvg.core c.args.secondary.now.waiting) c.receiver-told.ensures (HearDone c.args.line.now c.args.id c.args.start c.args.end) c.secondary.new.state c.in-Close.ensures.state) c.close.ensures.moves)

pub returns-in-Close-clause-left : goal.returns-in-Close-clause-left
returns-in-Close-clause-left g c = λ action. c.close.ensures.left

pub returns-in-Close-clause-waiting : goal.returns-in-Close-clause-waiting
returns-in-Close-clause-waiting g c = c.close.ensures.waiting
