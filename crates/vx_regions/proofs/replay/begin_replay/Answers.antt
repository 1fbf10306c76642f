-- A start of a replay, by what the rule says of it.
use Rattle.std.proofs.Common.{◌≡◌, arith, subst, sym}
use Rattle.std.specs.Prelude.{IfOk, OnOk}
use Rattle.vx_history.specs.declared.receiver.RState.{RState}
use Rattle.vx_replay.specs.declared.event.QAction.{QAction}
use Rattle.vx_replay.specs.declared.event.QAction.TheVariants.{Begin}
use Rattle.vx_replay.specs.declared.event.QEvent.TheVariants.{Start as HearStart}
use Rattle.vx_secondary.specs.Receivers.{receiver_of, writes_of_updates}
use Rattle.vx_regions.specs.Copies.{BeginsCopy, BegunCopy, told_state}
use Rattle.vx_regions.proofs.Begins.{begin_asked, begin_self, heard_action, heard_state}
use Rattle.vx_regions.proofs.replay.begin_replay.Goals as goal

pub returns-in-Some-clause-begins : goal.returns-in-Some-clause-begins
returns-in-Some-clause-begins g c = begin_self c.args.secondary.now.rvg.core (writes_of_updates c.args.secondary.now.waiting) _ (g.S.Shelf.meaning c.args.secondary.now.rvg.shelf)

pub begin-requires-clause-few : goal.begin-requires-clause-few
begin-requires-clause-few g c = omega (arith, c.requires.few, (begin_asked (receiver_of c.args.secondary.now.rvg.core c.args.secondary.now.waiting) c.args.line.now c.args.id c.args.start c.secondary.new.state (heard_action c.receiver-told.result (receiver_of c.args.secondary.now.rvg.core c.args.secondary.now.waiting) c.receiver-told.ensures (HearStart c.args.line.now c.args.id c.args.start) Begin c.in-Begin.ensures.action) (heard_state c.receiver-told.result (receiver_of c.args.secondary.now.rvg.core c.args.secondary.now.waiting) c.receiver-told.ensures (HearStart c.args.line.now c.args.id c.args.start) c.secondary.new.state c.in-Begin.ensures.state)).1)

pub begin-requires-clause-begins : goal.begin-requires-clause-begins
begin-requires-clause-begins g c = (begin_asked (receiver_of c.args.secondary.now.rvg.core c.args.secondary.now.waiting) c.args.line.now c.args.id c.args.start c.secondary.new.state (heard_action c.receiver-told.result (receiver_of c.args.secondary.now.rvg.core c.args.secondary.now.waiting) c.receiver-told.ensures (HearStart c.args.line.now c.args.id c.args.start) Begin c.in-Begin.ensures.action) (heard_state c.receiver-told.result (receiver_of c.args.secondary.now.rvg.core c.args.secondary.now.waiting) c.receiver-told.ensures (HearStart c.args.line.now c.args.id c.args.start) c.secondary.new.state c.in-Begin.ensures.state)).0

pub returns-in-Begin-clause-action : goal.returns-in-Begin-clause-action
returns-in-Begin-clause-action g c = subst (λ (x : QAction). IfOk c.begin.result (λ a. a ≡ x)) (heard_action c.receiver-told.result (receiver_of c.args.secondary.now.rvg.core c.args.secondary.now.waiting) c.receiver-told.ensures (HearStart c.args.line.now c.args.id c.args.start) Begin c.in-Begin.ensures.action) c.begin.ensures.action

pub returns-in-Begin-clause-unchanged : goal.returns-in-Begin-clause-unchanged
returns-in-Begin-clause-unchanged g c = λ running not. absurd (not (sym (heard_action c.receiver-told.result (receiver_of c.args.secondary.now.rvg.core c.args.secondary.now.waiting) c.receiver-told.ensures (HearStart c.args.line.now c.args.id c.args.start) Begin c.in-Begin.ensures.action)))

pub returns-in-Begin-clause-state : goal.returns-in-Begin-clause-state
returns-in-Begin-clause-state g c = subst (λ (s : RState). OnOk c.begin.result (receiver_of c.begin.new.secondary.rvg.core c.begin.new.secondary.waiting ≡ s)) (heard_state c.receiver-told.result (receiver_of c.args.secondary.now.rvg.core c.args.secondary.now.waiting) c.receiver-told.ensures (HearStart c.args.line.now c.args.id c.args.start) c.secondary.new.state c.in-Begin.ensures.state) c.begin.ensures.state

pub returns-in-Begin-clause-begun : goal.returns-in-Begin-clause-begun
returns-in-Begin-clause-begun g c = λ action.
    subst (λ (s : RState). OnOk c.begin.result (BegunCopy (writes_of_updates c.args.secondary.now.waiting) (told_state c.args.secondary.now.rvg.core.log.header.state s) c.args.secondary.now.rvg.core c.begin.new.secondary.rvg.core (g.S.Shelf.meaning c.args.secondary.now.rvg.shelf) (g.S.Shelf.meaning c.begin.new.secondary.rvg.shelf))) (heard_state c.receiver-told.result (receiver_of c.args.secondary.now.rvg.core c.args.secondary.now.waiting) c.receiver-told.ensures (HearStart c.args.line.now c.args.id c.args.start) c.secondary.new.state c.in-Begin.ensures.state) c.begin.ensures.begun

pub returns-in-Begin-clause-left : goal.returns-in-Begin-clause-left
returns-in-Begin-clause-left g c = λ action. c.begin.ensures.left

pub returns-in-Begin-clause-ends : goal.returns-in-Begin-clause-ends
returns-in-Begin-clause-ends g c = λ running. c.begin.ensures.ends

pub returns-in-Begin-clause-begins : goal.returns-in-Begin-clause-begins
returns-in-Begin-clause-begins g c = subst (λ (s : RState). BeginsCopy (writes_of_updates c.args.secondary.now.waiting) (told_state c.args.secondary.now.rvg.core.log.header.state s) c.args.secondary.now.rvg.core c.begin.new.secondary.rvg.core (g.S.Shelf.meaning c.args.secondary.now.rvg.shelf) (g.S.Shelf.meaning c.begin.new.secondary.rvg.shelf)) (heard_state c.receiver-told.result (receiver_of c.args.secondary.now.rvg.core c.args.secondary.now.waiting) c.receiver-told.ensures (HearStart c.args.line.now c.args.id c.args.start) c.secondary.new.state c.in-Begin.ensures.state) c.begin.ensures.begins
