-- A change of the line, case by case.
use Rattle.std.proofs.Common.{sym, ◌∙◌, ap, subst}
use Rattle.vx_model.specs.declared.state.State.{State}
use Rattle.vx_disk.specs.Moves.{Moves}
use Rattle.vx_rvg.specs.Saves.{RestartIs, change_blocks, restart_refusal, with_restart}
use Rattle.vx_rvg.specs.Stands.{Saving}
use Rattle.std.specs.Prelude.{Some}
use Rattle.vx_joins.proofs.JoinGroup.{join_calls, join_cut, joined_as, none_applied}
use Rattle.vx_joins.proofs.joining.join_group.Goals as goal

pub returns-then-is_down-clause-joined : goal.returns-then-is_down-clause-joined
returns-then-is_down-clause-joined g c = λ beside a p n up can is.
    let lawful = (g.met.R.Shelf g.world.𝓛 g.world.𝓜 g.world.𝓡 ((λ s x. x), (λ x. x), (λ x. x), λ x. x)).lawful in
    let old = c.args.rvg.now.core in
    let m = g.R.Shelf.meaning c.args.rvg.now.shelf in
    let new = g.R.Shelf.meaning c.change-answer.new.self.shelf in
    join_cut a p n old c.change-answer.new.self.core m new up can (lawful c.args.rvg.now.shelf) (lawful c.change-answer.new.self.shelf)
    (subst (λ (s : State). Moves (change_blocks (Some 0) old m) (Saving old (with_restart old s 0) m) m new) is c.change-answer.ensures.moves) (sym c.is_down.ensures ∙ c.if-is_down.true)

pub returns-clause-joined : goal.returns-clause-joined
returns-clause-joined g c = λ beside a p n up can is.
    let lawful = (g.met.R.Shelf g.world.𝓛 g.world.𝓜 g.world.𝓡 ((λ s x. x), (λ x. x), (λ x. x), λ x. x)).lawful in
    let is_rack = (g.met.R.Rack g.world.𝓛 g.world.𝓜 g.world.𝓡 ((λ s x. x), (λ x. x), (λ x. x), λ x. x)).rack in
    let old = c.args.rvg.now.core in
    let m = g.R.Shelf.meaning c.args.rvg.now.shelf in
    let new = g.R.Shelf.meaning c.change-answer.new.self.shelf in
    joined_as a p n old c.change-answer.new.self.core m new up can (lawful c.args.rvg.now.shelf) (lawful c.change-answer.new.self.shelf)
    (subst (λ (s : State). Moves (change_blocks (Some 0) old m) (Saving old (with_restart old s 0) m) m new) is c.change-answer.ensures.moves) (sym c.is_down.ensures ∙ c.if-is_down.false) c.change-answer.new.self.sound.log_unit
    c.args.rvg.now.sound.log_unit (is_rack c.args.rvg.now.shelf) c.ring-ring.ensures.run c.change-answer.result
    (subst (λ (s : State). RestartIs (restart_refusal old 0) old (with_restart old s 0) m new c.change-answer.new.self.core c.change-answer.result) is c.change-answer.ensures.answers)
    (λ some. ap g.R.Shelf.meaning (c.change-answer.ensures.unchanged some)) c.change-answer.ensures.stands
    (c.change-answer.ensures.blames (none_applied n old m up can))

pub returns-then-is_down-clause-short : goal.returns-then-is_down-clause-short
returns-then-is_down-clause-short g c = λ beside n up can.
    c.change-answer.ensures.short (none_applied n c.args.rvg.now.core (g.R.Shelf.meaning c.args.rvg.now.shelf) up can)

pub returns-clause-calls : goal.returns-clause-calls
returns-clause-calls g c =
    join_calls c.args.rvg.now.core (g.R.Shelf.meaning c.args.rvg.now.shelf) (g.R.Shelf.meaning c.change-answer.new.self.shelf) c.change-answer.result c.change-answer.ensures.calls

pub returns-clause-short : goal.returns-clause-short
returns-clause-short g c = λ beside n up can.
    c.change-answer.ensures.short (none_applied n c.args.rvg.now.core (g.R.Shelf.meaning c.args.rvg.now.shelf) up can)

pub returns-clause-works : goal.returns-clause-works
returns-clause-works g c = c.change-answer.ensures.works

pub returns-then-is_down-clause-spends : goal.returns-then-is_down-clause-spends
returns-then-is_down-clause-spends g c = c.change-answer.ensures.spends

pub returns-clause-spends : goal.returns-clause-spends
returns-clause-spends g c = c.change-answer.ensures.spends

pub returns-then-is_down-clause-later : goal.returns-then-is_down-clause-later
returns-then-is_down-clause-later g c = record { counts = c.change-answer.ensures.moves.disk_faults; told = λ told. sym c.change-answer.ensures.moves.tells ∙ told }

pub returns-clause-later : goal.returns-clause-later
returns-clause-later g c = record { counts = c.change-answer.ensures.moves.disk_faults; told = λ told. sym c.change-answer.ensures.moves.tells ∙ told }
