-- A state that is set, case by case.
use Rattle.std.proofs.Common.{sym, ◌∙◌, ap, refl, rules}
use Rattle.vx_diskset.proofs.KeepGroup.{keep_cut, kept_as}
use Rattle.vx_diskset.proofs.CallsBurn.{state_off}
use Rattle.vx_rvg.specs.Saves.{change_refusal}
use Rattle.vx_diskset.proofs.Receiving.{wait_kept}
use Rattle.vx_diskset.proofs.RvgMoves.{log_moves}
use Rattle.vx_rvg.specs.Saves.{with_new_state}
use Rattle.vx_diskset.proofs.MakeRoom.{save_units}
use Rattle.vx_diskset.proofs.keeping.keep_group.Goals as goal

pub returns-then-is_down-clause-kept : goal.returns-then-is_down-clause-kept
returns-then-is_down-clause-kept g c = λ beside n up can.
    let lawful = g.met.S.Shelf.lawful in
    keep_cut n c.args.rvg.now.core c.set_state-answer.new.self.core (g.S.Shelf.meaning c.args.rvg.now.shelf) (g.S.Shelf.meaning c.set_state-answer.new.self.shelf) c.args.state.now up can
    (lawful c.args.rvg.now.shelf) (lawful c.set_state-answer.new.self.shelf) c.set_state-answer.ensures.moves (sym c.is_down.ensures ∙ c.if-is_down.true)

pub returns-clause-kept : goal.returns-clause-kept
returns-clause-kept g c = λ beside n up can.
    let lawful = g.met.S.Shelf.lawful in
    kept_as n c.args.rvg.now.core c.set_state-answer.new.self.core (g.S.Shelf.meaning c.args.rvg.now.shelf) (g.S.Shelf.meaning c.set_state-answer.new.self.shelf) c.args.state.now up can
    (lawful c.args.rvg.now.shelf) (lawful c.set_state-answer.new.self.shelf) c.set_state-answer.ensures.moves (sym c.is_down.ensures ∙ c.if-is_down.false) c.set_state-answer.new.self.sound.log_unit
    c.args.rvg.now.sound.log_unit
    c.set_state-answer.result c.set_state-answer.ensures.answers (λ some. ap g.S.Shelf.meaning (c.set_state-answer.ensures.unchanged some)) c.set_state-answer.ensures.stands c.set_state-answer.ensures.blames

pub returns-then-is_down-clause-off : goal.returns-then-is_down-clause-off
returns-then-is_down-clause-off g c = λ up. sym c.is_down.ensures ∙ c.if-is_down.true

pub returns-clause-off : goal.returns-clause-off
returns-clause-off g c = λ up. state_off c.args.rvg.now.core _ (g.S.Shelf.meaning c.args.rvg.now.shelf) (g.S.Shelf.meaning c.set_state-answer.new.self.shelf) c.set_state-answer.new.self.core c.set_state-answer.result (sym c.is_down.ensures ∙ c.if-is_down.false) c.set_state-answer.ensures.answers

pub returns-then-is_down-clause-spends : goal.returns-then-is_down-clause-spends
returns-then-is_down-clause-spends g c = c.set_state-answer.ensures.spends

pub returns-clause-spends : goal.returns-clause-spends
returns-clause-spends g c = c.set_state-answer.ensures.spends

pub returns-then-is_down-clause-short : goal.returns-then-is_down-clause-short
returns-then-is_down-clause-short g c = c.set_state-answer.ensures.short

pub returns-clause-calls : goal.returns-clause-calls
returns-clause-calls g c = c.set_state-answer.ensures.calls

pub returns-clause-short : goal.returns-clause-short
returns-clause-short g c = c.set_state-answer.ensures.short

pub returns-then-is_down-clause-waiting : goal.returns-then-is_down-clause-waiting
returns-then-is_down-clause-waiting g c = λ us.
    wait_kept (change_refusal c.args.rvg.now.core) c.args.rvg.now.core c.set_state-answer.new.self.core c.args.state.now (g.S.Shelf.meaning c.args.rvg.now.shelf) (g.S.Shelf.meaning c.set_state-answer.new.self.shelf) c.set_state-answer.result us (search rules)
    c.set_state-answer.ensures.answers c.set_state-answer.ensures.moves.size

pub returns-clause-waiting : goal.returns-clause-waiting
returns-clause-waiting g c = λ us.
    wait_kept (change_refusal c.args.rvg.now.core) c.args.rvg.now.core c.set_state-answer.new.self.core c.args.state.now (g.S.Shelf.meaning c.args.rvg.now.shelf) (g.S.Shelf.meaning c.set_state-answer.new.self.shelf) c.set_state-answer.result us (search rules)
    c.set_state-answer.ensures.answers c.set_state-answer.ensures.moves.size

pub returns-clause-works : goal.returns-clause-works
returns-clause-works g c = c.set_state-answer.ensures.works

pub returns-then-is_down-clause-moves : goal.returns-then-is_down-clause-moves
returns-then-is_down-clause-moves g c = log_moves c.args.rvg.now.core _ _ _ (g.S.Shelf.meaning c.args.rvg.now.shelf) (g.S.Shelf.meaning c.set_state-answer.new.self.shelf) c.set_state-answer.ensures.moves

pub returns-clause-moves : goal.returns-clause-moves
returns-clause-moves g c = log_moves c.args.rvg.now.core _ _ _ (g.S.Shelf.meaning c.args.rvg.now.shelf) (g.S.Shelf.meaning c.set_state-answer.new.self.shelf) c.set_state-answer.ensures.moves

pub returns-then-is_down-clause-units : goal.returns-then-is_down-clause-units
returns-then-is_down-clause-units g c =
    save_units (change_refusal c.args.rvg.now.core) c.args.rvg.now.core (with_new_state c.args.rvg.now.core c.args.state.now) (g.S.Shelf.meaning c.args.rvg.now.shelf) (g.S.Shelf.meaning c.set_state-answer.new.self.shelf) c.set_state-answer.new.self.core c.set_state-answer.result refl c.set_state-answer.ensures.answers

pub returns-clause-units : goal.returns-clause-units
returns-clause-units g c =
    save_units (change_refusal c.args.rvg.now.core) c.args.rvg.now.core (with_new_state c.args.rvg.now.core c.args.state.now) (g.S.Shelf.meaning c.args.rvg.now.shelf) (g.S.Shelf.meaning c.set_state-answer.new.self.shelf) c.set_state-answer.new.self.core c.set_state-answer.result refl c.set_state-answer.ensures.answers
