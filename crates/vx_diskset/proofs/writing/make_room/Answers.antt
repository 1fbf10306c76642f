-- Room in the log, case by case.
use Rattle.std.proofs.Common.{◌≤◌, ◌∙◌, ℕ, ap, arith, refl}
use Rattle.vx_model.specs.declared.limits.TheConstants.{MOST_CALL_BLOCKS}
use Rattle.std.specs.Prelude.{Err, Ok, min}
use Rattle.std.proofs.lemmas.Result.{err_from_is_err_and}
use Rattle.vx_history.specs.Steps.{worked}
use Rattle.vx_srl.specs.Views.{Log, free_of}
use Rattle.vx_diskset.proofs.Blamed.{blamed_since}
use Rattle.vx_diskset.proofs.MakeRoom.{room_unapplied, room_later, room_again, room_after}
use Rattle.vx_disk.proofs.Spending.{spends_none, then_spends}
use Rattle.vx_diskset.proofs.Mores.{more_after, more_none}
use Rattle.vx_diskset.proofs.LeavesNumbers.{never_as, numbers_log}
use Rattle.vx_diskset.proofs.RvgMoves.{no_moves, then_moves}
use Rattle.vx_diskset.proofs.writing.make_room.Goals as goal

pub returns-in_err-apply_group-clause-made : goal.returns-in_err-apply_group-clause-made
returns-in_err-apply_group-clause-made g c = λ beside n up none has few.
    let p = err_from_is_err_and c.from_residual.result c.from_residual.ensures.1 in
    rw (p.1, p.2)
    (room_unapplied beside n c.args.hold c.apply_group.new.rvg.core (g.S.Shelf.meaning c.args.rvg.now.shelf) (g.S.Shelf.meaning c.apply_group.new.rvg.shelf) _ (c.in_err-apply_group.ensures.applied beside n up none))

pub returns-in_err-reclaim_group-clause-made : goal.returns-in_err-reclaim_group-clause-made
returns-in_err-reclaim_group-clause-made g c = λ beside n up none has few.
    let p = err_from_is_err_and c.from_residual-in_err-reclaim_group.result c.from_residual-in_err-reclaim_group.ensures.1 in
    let done = c.in_ok-apply_group.ensures.applied beside n up none in
    let rest = room_after beside n c.args.hold c.args.count c.in_ok-apply_group.field-0 c.apply_group.new.rvg.core.applied c.min-to.result c.apply_group.new.rvg.core (g.S.Shelf.meaning c.args.rvg.now.shelf) (g.S.Shelf.meaning c.apply_group.new.rvg.shelf) (omega (arith, up.logged, up.durable none)) c.in_ok-apply_group.ensures.reached
    (c.min-to.ensures ∙ ap (λ (k : ℕ). min c.args.hold k) c.applied.ensures) done has in
    let less : free_of c.apply_group.new.rvg.core.log ≤ MOST_CALL_BLOCKS = omega (arith, c.if-free-count.false, c.free.ensures.is, few, ap (λ (l : Log). free_of l) c.in_ok-apply_group.ensures.log) in
    rw (p.1, p.2)
    (room_later beside n c.reclaim_group.new.rvg.core (g.S.Shelf.meaning c.args.rvg.now.shelf) (g.S.Shelf.meaning c.apply_group.new.rvg.shelf) (g.S.Shelf.meaning c.reclaim_group.new.rvg.shelf) (Err c.in_err-reclaim_group.field-0.0) c.apply_group.ensures.later.counts
    (room_again beside n c.reclaim_group.new.rvg.core (g.S.Shelf.meaning c.apply_group.new.rvg.shelf) (g.S.Shelf.meaning c.reclaim_group.new.rvg.shelf) (Err c.in_err-reclaim_group.field-0.0) (c.in_err-reclaim_group.ensures.made beside (worked n) done.2 none rest.0 less)))

pub returns-then-free-count-2-clause-made : goal.returns-then-free-count-2-clause-made
returns-then-free-count-2-clause-made g c = λ beside n up none has few.
    let done = c.in_ok-apply_group.ensures.applied beside n up none in
    let rest = room_after beside n c.args.hold c.args.count c.in_ok-apply_group.field-0 c.apply_group.new.rvg.core.applied c.min-to.result c.apply_group.new.rvg.core (g.S.Shelf.meaning c.args.rvg.now.shelf) (g.S.Shelf.meaning c.apply_group.new.rvg.shelf) (omega (arith, up.logged, up.durable none)) c.in_ok-apply_group.ensures.reached
    (c.min-to.ensures ∙ ap (λ (k : ℕ). min c.args.hold k) c.applied.ensures) done has in
    let less : free_of c.apply_group.new.rvg.core.log ≤ MOST_CALL_BLOCKS = omega (arith, c.if-free-count.false, c.free.ensures.is, few, ap (λ (l : Log). free_of l) c.in_ok-apply_group.ensures.log) in
    room_again beside n c.reclaim_group.new.rvg.core (g.S.Shelf.meaning c.apply_group.new.rvg.shelf) (g.S.Shelf.meaning c.reclaim_group.new.rvg.shelf) (Ok c.in_ok-reclaim_group.field-0) (c.in_ok-reclaim_group.ensures.made beside (worked n) done.2 none rest.0 less)

pub returns-else-free-count-2-clause-made : goal.returns-else-free-count-2-clause-made
returns-else-free-count-2-clause-made g c = λ beside n up none has few.
    let done = c.in_ok-apply_group.ensures.applied beside n up none in
    let rest = room_after beside n c.args.hold c.args.count c.in_ok-apply_group.field-0 c.apply_group.new.rvg.core.applied c.min-to.result c.apply_group.new.rvg.core (g.S.Shelf.meaning c.args.rvg.now.shelf) (g.S.Shelf.meaning c.apply_group.new.rvg.shelf) (omega (arith, up.logged, up.durable none)) c.in_ok-apply_group.ensures.reached
    (c.min-to.ensures ∙ ap (λ (k : ℕ). min c.args.hold k) c.applied.ensures) done has in
    let less : free_of c.apply_group.new.rvg.core.log ≤ MOST_CALL_BLOCKS = omega (arith, c.if-free-count.false, c.free.ensures.is, few, ap (λ (l : Log). free_of l) c.in_ok-apply_group.ensures.log) in
    let free = c.in_ok-reclaim_group.ensures.room beside (worked n) c.args.count done.2 none rest.0 less rest.1 in
    absurd (omega (arith, c.if-free-count-2.false, c.free-2.ensures.is, free))

pub returns-then-free-count-clause-off : goal.returns-then-free-count-clause-off
returns-then-free-count-clause-off g c = λ up. up

pub returns-then-free-count-clause-spends : goal.returns-then-free-count-clause-spends
returns-then-free-count-clause-spends g c = spends_none (g.S.Shelf.meaning c.args.rvg.now.shelf)

pub returns-in_err-apply_group-clause-off : goal.returns-in_err-apply_group-clause-off
returns-in_err-apply_group-clause-off g c = λ up.
    let p = err_from_is_err_and c.from_residual.result c.from_residual.ensures.1 in
    rw (p.1, p.2) c.in_err-apply_group.ensures.off

pub returns-in_err-apply_group-clause-spends : goal.returns-in_err-apply_group-clause-spends
returns-in_err-apply_group-clause-spends g c = c.apply_group.ensures.spends

pub returns-in_err-reclaim_group-clause-off : goal.returns-in_err-reclaim_group-clause-off
returns-in_err-reclaim_group-clause-off g c = λ up.
    let p = err_from_is_err_and c.from_residual-in_err-reclaim_group.result c.from_residual-in_err-reclaim_group.ensures.1 in
    rw (p.1, p.2) c.in_err-reclaim_group.ensures.off

pub returns-in_err-reclaim_group-clause-spends : goal.returns-in_err-reclaim_group-clause-spends
returns-in_err-reclaim_group-clause-spends g c = then_spends (g.S.Shelf.meaning c.args.rvg.now.shelf) (g.S.Shelf.meaning c.apply_group.new.rvg.shelf) (g.S.Shelf.meaning c.reclaim_group.new.rvg.shelf) c.apply_group.ensures.spends c.reclaim_group.ensures.spends

pub returns-then-free-count-2-clause-off : goal.returns-then-free-count-2-clause-off
returns-then-free-count-2-clause-off g c = λ up. c.in_ok-reclaim_group.ensures.off

pub returns-then-free-count-2-clause-spends : goal.returns-then-free-count-2-clause-spends
returns-then-free-count-2-clause-spends g c = then_spends (g.S.Shelf.meaning c.args.rvg.now.shelf) (g.S.Shelf.meaning c.apply_group.new.rvg.shelf) (g.S.Shelf.meaning c.reclaim_group.new.rvg.shelf) c.apply_group.ensures.spends c.reclaim_group.ensures.spends

pub returns-else-free-count-2-clause-off : goal.returns-else-free-count-2-clause-off
returns-else-free-count-2-clause-off g c = λ up. c.in_ok-reclaim_group.ensures.off

pub returns-else-free-count-2-clause-spends : goal.returns-else-free-count-2-clause-spends
returns-else-free-count-2-clause-spends g c = then_spends (g.S.Shelf.meaning c.args.rvg.now.shelf) (g.S.Shelf.meaning c.apply_group.new.rvg.shelf) (g.S.Shelf.meaning c.reclaim_group.new.rvg.shelf) c.apply_group.ensures.spends c.reclaim_group.ensures.spends

pub returns-then-free-count-clause-group : goal.returns-then-free-count-clause-group
returns-then-free-count-clause-group g c = more_none c.args.rvg.now.core

pub returns-in_err-apply_group-clause-group : goal.returns-in_err-apply_group-clause-group
returns-in_err-apply_group-clause-group g c = c.apply_group.ensures.group

pub returns-in_err-reclaim_group-clause-group : goal.returns-in_err-reclaim_group-clause-group
returns-in_err-reclaim_group-clause-group g c = more_after 0 c.args.rvg.now.core c.apply_group.new.rvg.core c.reclaim_group.new.rvg.core c.apply_group.ensures.group c.reclaim_group.ensures.group

pub returns-then-free-count-2-clause-group : goal.returns-then-free-count-2-clause-group
returns-then-free-count-2-clause-group g c = more_after 0 c.args.rvg.now.core c.apply_group.new.rvg.core c.reclaim_group.new.rvg.core c.apply_group.ensures.group c.reclaim_group.ensures.group

pub returns-else-free-count-2-clause-group : goal.returns-else-free-count-2-clause-group
returns-else-free-count-2-clause-group g c = more_after 0 c.args.rvg.now.core c.apply_group.new.rvg.core c.reclaim_group.new.rvg.core c.apply_group.ensures.group c.reclaim_group.ensures.group

pub returns-then-free-count-clause-takes : goal.returns-then-free-count-clause-takes
returns-then-free-count-clause-takes g c = record { never = λ has. tt; stamp = omega arith }

pub returns-in_err-apply_group-clause-takes : goal.returns-in_err-apply_group-clause-takes
returns-in_err-apply_group-clause-takes g c =
    let p = err_from_is_err_and c.from_residual.result c.from_residual.ensures.1 in
    rw (p.1, p.2) (record { never = λ has. never_as ℕ (Unit {0}) c.in_err-apply_group.field-0.0 c.in_err-apply_group.ensures.never; stamp = tt })

pub returns-in_err-reclaim_group-clause-takes : goal.returns-in_err-reclaim_group-clause-takes
returns-in_err-reclaim_group-clause-takes g c =
    let p = err_from_is_err_and c.from_residual-in_err-reclaim_group.result c.from_residual-in_err-reclaim_group.ensures.1 in
    rw (p.1, p.2)
    (record {
      never = λ has. c.in_err-reclaim_group.ensures.takes.never (numbers_log c.args.rvg.now.core c.apply_group.new.rvg.core 1 c.in_ok-apply_group.ensures.log has);
      stamp = tt;
    })

pub returns-then-free-count-2-clause-takes : goal.returns-then-free-count-2-clause-takes
returns-then-free-count-2-clause-takes g c = record {
  never = λ has. tt;
  stamp = omega (arith, c.in_ok-reclaim_group.ensures.takes.stamp, ap (λ (l : Log). l.header.stamp) c.in_ok-apply_group.ensures.log);
}

pub returns-else-free-count-2-clause-takes : goal.returns-else-free-count-2-clause-takes
returns-else-free-count-2-clause-takes g c = record { never = λ has. tt; stamp = tt }

pub returns-in_err-apply_group-clause-blames : goal.returns-in_err-apply_group-clause-blames
returns-in_err-apply_group-clause-blames g c =
    let p = err_from_is_err_and c.from_residual.result c.from_residual.ensures.1 in
    rw (p.1, p.2) c.in_err-apply_group.ensures.blames

pub returns-in_err-reclaim_group-clause-blames : goal.returns-in_err-reclaim_group-clause-blames
returns-in_err-reclaim_group-clause-blames g c =
    let p = err_from_is_err_and c.from_residual-in_err-reclaim_group.result c.from_residual-in_err-reclaim_group.ensures.1 in
    rw (p.1, p.2) (blamed_since (g.S.Shelf.meaning c.args.rvg.now.shelf) (g.S.Shelf.meaning c.apply_group.new.rvg.shelf) c.args.rvg.now.core.units c.apply_group.new.rvg.core.units c.in_err-reclaim_group.field-0.0 c.apply_group.ensures.spends c.apply_group.ensures.units c.in_err-reclaim_group.ensures.blames)

pub returns-then-free-count-clause-moves : goal.returns-then-free-count-clause-moves
returns-then-free-count-clause-moves g c = no_moves c.args.rvg.now.core (g.S.Shelf.meaning c.args.rvg.now.shelf)

pub returns-in_err-apply_group-clause-moves : goal.returns-in_err-apply_group-clause-moves
returns-in_err-apply_group-clause-moves g c = c.apply_group.ensures.moves

pub returns-in_err-reclaim_group-clause-moves : goal.returns-in_err-reclaim_group-clause-moves
returns-in_err-reclaim_group-clause-moves g c = then_moves c.args.rvg.now.core c.apply_group.new.rvg.core (g.S.Shelf.meaning c.args.rvg.now.shelf) (g.S.Shelf.meaning c.apply_group.new.rvg.shelf) (g.S.Shelf.meaning c.reclaim_group.new.rvg.shelf) c.apply_group.ensures.units c.apply_group.ensures.moves c.reclaim_group.ensures.moves

pub returns-then-free-count-2-clause-moves : goal.returns-then-free-count-2-clause-moves
returns-then-free-count-2-clause-moves g c = then_moves c.args.rvg.now.core c.apply_group.new.rvg.core (g.S.Shelf.meaning c.args.rvg.now.shelf) (g.S.Shelf.meaning c.apply_group.new.rvg.shelf) (g.S.Shelf.meaning c.reclaim_group.new.rvg.shelf) c.apply_group.ensures.units c.apply_group.ensures.moves c.reclaim_group.ensures.moves

pub returns-else-free-count-2-clause-moves : goal.returns-else-free-count-2-clause-moves
returns-else-free-count-2-clause-moves g c = then_moves c.args.rvg.now.core c.apply_group.new.rvg.core (g.S.Shelf.meaning c.args.rvg.now.shelf) (g.S.Shelf.meaning c.apply_group.new.rvg.shelf) (g.S.Shelf.meaning c.reclaim_group.new.rvg.shelf) c.apply_group.ensures.units c.apply_group.ensures.moves c.reclaim_group.ensures.moves

pub returns-in_err-apply_group-clause-units : goal.returns-in_err-apply_group-clause-units
returns-in_err-apply_group-clause-units g c = c.apply_group.ensures.units

pub returns-in_err-reclaim_group-clause-units : goal.returns-in_err-reclaim_group-clause-units
returns-in_err-reclaim_group-clause-units g c = c.reclaim_group.ensures.units ∙ c.apply_group.ensures.units

pub returns-then-free-count-2-clause-units : goal.returns-then-free-count-2-clause-units
returns-then-free-count-2-clause-units g c = c.reclaim_group.ensures.units ∙ c.apply_group.ensures.units

pub returns-else-free-count-2-clause-units : goal.returns-else-free-count-2-clause-units
returns-else-free-count-2-clause-units g c = c.reclaim_group.ensures.units ∙ c.apply_group.ensures.units

pub returns-then-free-count-clause-units : goal.returns-then-free-count-clause-units
returns-then-free-count-clause-units g c = refl
