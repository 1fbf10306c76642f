-- An apply of a site that is up.
use Rattle.std.proofs.Common.{sym, ◌∙◌}
use Rattle.vx_diskset.proofs.Blamed.{volumes_blamed}
use Rattle.vx_diskset.proofs.ApplyGroup.{applied_as, applied_cut}
use Rattle.std.specs.Prelude.{None}
use Rattle.vx_rvg.specs.Groups.{halted_or}
use Rattle.vx_diskset.proofs.CallsBurn.{apply_off}
use Rattle.vx_diskset.proofs.MakeRoom.{apply_log}
use Rattle.vx_diskset.proofs.Receiving.{wait_applied}
use Rattle.vx_diskset.proofs.Mores.{more_applied}
use Rattle.vx_diskset.proofs.LeavesNumbers.{apply_never}
use Rattle.vx_diskset.proofs.RvgMoves.{waits_moves}
use Rattle.vx_diskset.proofs.writing.apply_group.Goals as goal

pub returns-then-is_down-clause-applied : goal.returns-then-is_down-clause-applied
returns-then-is_down-clause-applied g c = λ beside n up none.
    let lawful = g.met.S.Shelf.lawful in
    applied_cut n c.args.rvg.now.core (g.S.Shelf.meaning c.args.rvg.now.shelf) (g.S.Shelf.meaning c.apply-answer.new.self.shelf) up (record { up = up.state; running = none }) (lawful c.args.rvg.now.shelf) (lawful c.apply-answer.new.self.shelf)
    c.apply-answer.ensures.moves (sym c.is_down.ensures ∙ c.if-is_down.true)

pub returns-clause-applied : goal.returns-clause-applied
returns-clause-applied g c = λ beside n up none.
    let lawful = g.met.S.Shelf.lawful in
    applied_as n c.args.to c.args.rvg.now.core c.apply-answer.new.self.core (g.S.Shelf.meaning c.args.rvg.now.shelf) (g.S.Shelf.meaning c.apply-answer.new.self.shelf) c.apply-answer.result up (record { up = up.state; running = none }) c.args.rvg.now.sound
    (lawful c.args.rvg.now.shelf) (lawful c.apply-answer.new.self.shelf) (sym c.is_down.ensures ∙ c.if-is_down.false)
    c.apply-answer.ensures.answers c.apply-answer.ensures.stands c.apply-answer.ensures.moves

pub returns-then-is_down-clause-off : goal.returns-then-is_down-clause-off
returns-then-is_down-clause-off g c = sym c.is_down.ensures ∙ c.if-is_down.true

pub returns-clause-off : goal.returns-clause-off
returns-clause-off g c = apply_off c.args.rvg.now.core c.args.to (g.S.Shelf.meaning c.args.rvg.now.shelf) (g.S.Shelf.meaning c.apply-answer.new.self.shelf) c.apply-answer.new.self.core c.apply-answer.result (sym c.is_down.ensures ∙ c.if-is_down.false) c.apply-answer.ensures.answers

pub returns-then-is_down-clause-spends : goal.returns-then-is_down-clause-spends
returns-then-is_down-clause-spends g c = c.apply-answer.ensures.spends

pub returns-clause-spends : goal.returns-clause-spends
returns-clause-spends g c = c.apply-answer.ensures.spends

pub returns-clause-log : goal.returns-clause-log
returns-clause-log g c =
    apply_log (halted_or c.args.rvg.now.core.halted None) c.args.rvg.now.core c.args.to (g.S.Shelf.meaning c.args.rvg.now.shelf) (g.S.Shelf.meaning c.apply-answer.new.self.shelf) c.apply-answer.new.self.core c.apply-answer.result c.apply-answer.ensures.answers

pub returns-then-is_down-clause-waiting : goal.returns-then-is_down-clause-waiting
returns-then-is_down-clause-waiting g c = λ us.
    wait_applied (halted_or c.args.rvg.now.core.halted None) c.args.rvg.now.core c.apply-answer.new.self.core c.args.to (g.S.Shelf.meaning c.args.rvg.now.shelf) (g.S.Shelf.meaning c.apply-answer.new.self.shelf) c.apply-answer.result us c.apply-answer.ensures.answers c.apply-answer.ensures.moves.size

pub returns-clause-waiting : goal.returns-clause-waiting
returns-clause-waiting g c = λ us.
    wait_applied (halted_or c.args.rvg.now.core.halted None) c.args.rvg.now.core c.apply-answer.new.self.core c.args.to (g.S.Shelf.meaning c.args.rvg.now.shelf) (g.S.Shelf.meaning c.apply-answer.new.self.shelf) c.apply-answer.result us c.apply-answer.ensures.answers c.apply-answer.ensures.moves.size

pub returns-then-is_down-clause-group : goal.returns-then-is_down-clause-group
returns-then-is_down-clause-group g c = more_applied (halted_or c.args.rvg.now.core.halted None) c.args.rvg.now.core c.apply-answer.new.self.core c.args.to (g.S.Shelf.meaning c.args.rvg.now.shelf) (g.S.Shelf.meaning c.apply-answer.new.self.shelf) c.apply-answer.result c.apply-answer.ensures.answers

pub returns-clause-group : goal.returns-clause-group
returns-clause-group g c = more_applied (halted_or c.args.rvg.now.core.halted None) c.args.rvg.now.core c.apply-answer.new.self.core c.args.to (g.S.Shelf.meaning c.args.rvg.now.shelf) (g.S.Shelf.meaning c.apply-answer.new.self.shelf) c.apply-answer.result c.apply-answer.ensures.answers

pub returns-clause-never : goal.returns-clause-never
returns-clause-never g c = apply_never c.args.rvg.now.core c.args.to (g.S.Shelf.meaning c.args.rvg.now.shelf) (g.S.Shelf.meaning c.apply-answer.new.self.shelf) c.apply-answer.new.self.core c.apply-answer.result c.apply-answer.ensures.answers

pub returns-clause-blames : goal.returns-clause-blames
returns-clause-blames g c =
    volumes_blamed c.apply-answer.result (g.S.Shelf.meaning c.args.rvg.now.shelf) c.args.rvg.now.core c.apply-answer.ensures.blames

pub returns-then-is_down-clause-moves : goal.returns-then-is_down-clause-moves
returns-then-is_down-clause-moves g c = waits_moves c.args.rvg.now.core (g.S.Shelf.meaning c.args.rvg.now.shelf) _ (g.S.Shelf.meaning c.args.rvg.now.shelf) (g.S.Shelf.meaning c.apply-answer.new.self.shelf) c.apply-answer.ensures.moves

pub returns-clause-moves : goal.returns-clause-moves
returns-clause-moves g c = waits_moves c.args.rvg.now.core (g.S.Shelf.meaning c.args.rvg.now.shelf) _ (g.S.Shelf.meaning c.args.rvg.now.shelf) (g.S.Shelf.meaning c.apply-answer.new.self.shelf) c.apply-answer.ensures.moves
