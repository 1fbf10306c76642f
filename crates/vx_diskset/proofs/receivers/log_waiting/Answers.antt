-- The oldest of what waits are logged, one after another.
use Rattle.std.proofs.Common.{◌+◌, ℕ, arith, subst, sym, ◌∙◌}
use Rattle.std.proofs.lemmas.Result.{err_from_is_err_and}
use Rattle.vx_disk.proofs.Spending.{then_spends}
use Rattle.vx_secondary.specs.Receivers.{Wait}
use Rattle.vx_diskset.specs.Received.{reached}
use Rattle.vx_diskset.specs.Stands.{IsReceiverAt}
use Rattle.vx_diskset.proofs.Blamed.{blamed_since}
use Rattle.vx_diskset.proofs.Reaching.{failed_more, logged_more, logged_none, next_can, numbers_left, some_waits, still_waits}
use Rattle.vx_diskset.proofs.Mores.{wait_more}
use Rattle.vx_diskset.proofs.RvgMoves.{then_moves}
use Rattle.vx_diskset.proofs.receivers.log_waiting.Goals as goal

pub loop-init : goal.loop-init
loop-init g c = logged_none c.args.waiting.now c.args.rvg.now.core (g.S.Shelf.meaning c.args.rvg.now.shelf)

pub log_next-requires-clause-waits : goal.log_next-requires-clause-waits
log_next-requires-clause-waits g c =
    still_waits c.args.waiting.now c.loop.counter c.args.rvg.now.core c.loop.rvg.core c.loop.rvg.core (g.S.Shelf.meaning c.args.rvg.now.shelf) (g.S.Shelf.meaning c.loop.rvg.shelf) (g.S.Shelf.meaning c.loop.rvg.shelf) c.loop.waiting c.loop.invariant c.requires.waits

pub log_next-requires-clause-some : goal.log_next-requires-clause-some
log_next-requires-clause-some g c =
    some_waits c.args.waiting.now c.loop.counter c.args.rvg.now.core c.loop.rvg.core c.loop.rvg.core (g.S.Shelf.meaning c.args.rvg.now.shelf) (g.S.Shelf.meaning c.loop.rvg.shelf) (g.S.Shelf.meaning c.loop.rvg.shelf) c.loop.waiting c.loop.invariant
    (omega (arith, c.loop-test.true, c.requires.some))

pub loop-preserved : goal.loop-preserved
loop-preserved g c =
    logged_more c.args.waiting.now c.loop.counter c.args.rvg.now.core c.loop.rvg.core c.log_next.new.rvg.core (g.S.Shelf.meaning c.args.rvg.now.shelf) (g.S.Shelf.meaning c.loop.rvg.shelf) (g.S.Shelf.meaning c.log_next.new.rvg.shelf) c.loop.waiting c.loop.invariant
    c.log_next.new.waiting c.in_ok-log_next.ensures.logs c.in_ok-log_next.ensures.left c.in_ok-log_next.ensures.group c.in_ok-log_next.ensures.stamp c.log_next.ensures.spends c.in_ok-log_next.ensures.off c.log_next.ensures.later.counts c.log_next.ensures.later.told c.log_next.ensures.moves

pub returns-in_err-log_next-clause-logs : goal.returns-in_err-log_next-clause-logs
returns-in_err-log_next-clause-logs g c = λ beside n r can.
    let p = err_from_is_err_and c.from_residual.result c.from_residual.ensures.1 in
    rw (p.1, p.2)
    (failed_more c.args.waiting.now c.loop.counter c.args.rvg.now.core c.loop.rvg.core c.log_next.new.rvg.core (g.S.Shelf.meaning c.args.rvg.now.shelf) (g.S.Shelf.meaning c.loop.rvg.shelf) (g.S.Shelf.meaning c.log_next.new.rvg.shelf) c.loop.waiting c.loop.invariant
    n c.args.count c.log_next.new.waiting c.in_err-log_next.field-0.0 (omega (arith, c.loop-test.true)) r can (c.in_err-log_next.ensures.logs beside (reached n (n.safe + c.loop.counter)) (c.loop.invariant.each beside n r can) (next_can n (n.safe + c.loop.counter) can)))

pub returns-in_err-log_next-clause-waits : goal.returns-in_err-log_next-clause-waits
returns-in_err-log_next-clause-waits g c =
    subst (λ us. Wait c.log_next.new.rvg.core (g.S.Shelf.meaning c.log_next.new.rvg.shelf).size us) (sym c.in_err-log_next.ensures.left)
    (wait_more 0 c.loop.rvg.core c.log_next.new.rvg.core (g.S.Shelf.meaning c.loop.rvg.shelf).size (g.S.Shelf.meaning c.log_next.new.rvg.shelf).size c.loop.waiting c.in_err-log_next.ensures.group c.log_next.ensures.spends.size
    (still_waits c.args.waiting.now c.loop.counter c.args.rvg.now.core c.loop.rvg.core c.loop.rvg.core (g.S.Shelf.meaning c.args.rvg.now.shelf) (g.S.Shelf.meaning c.loop.rvg.shelf) (g.S.Shelf.meaning c.loop.rvg.shelf) c.loop.waiting c.loop.invariant c.requires.waits))

pub returns-in_err-log_next-clause-spends : goal.returns-in_err-log_next-clause-spends
returns-in_err-log_next-clause-spends g c =
    then_spends (g.S.Shelf.meaning c.args.rvg.now.shelf) (g.S.Shelf.meaning c.loop.rvg.shelf) (g.S.Shelf.meaning c.log_next.new.rvg.shelf) c.loop.invariant.spends c.log_next.ensures.spends

pub returns-in_err-log_next-clause-off : goal.returns-in_err-log_next-clause-off
returns-in_err-log_next-clause-off g c = λ up.
    let p = err_from_is_err_and c.from_residual.result c.from_residual.ensures.1 in
    rw (p.1, p.2) (c.in_err-log_next.ensures.off (c.loop.invariant.up up))

pub returns-in_err-log_next-clause-later : goal.returns-in_err-log_next-clause-later
returns-in_err-log_next-clause-later g c = record {
  counts = λ d. let one = c.loop.invariant.counts d in let two = c.log_next.ensures.later.counts d in omega (arith, one, two);
  told = λ told. c.loop.invariant.told (c.log_next.ensures.later.told told);
}

pub returns-clause-later : goal.returns-clause-later
returns-clause-later g c = record { counts = c.loop.invariant.counts; told = c.loop.invariant.told }

pub returns-clause-logs : goal.returns-clause-logs
returns-clause-logs g c = λ beside n r can.
    subst (λ (k : ℕ). IsReceiverAt beside (reached n (n.safe + k)) c.loop.rvg.core c.loop.waiting (g.S.Shelf.meaning c.loop.rvg.shelf)) (omega (arith, c.loop-test.false, c.loop.auto.counter-end)) (c.loop.invariant.each beside n r can)

pub returns-clause-waits : goal.returns-clause-waits
returns-clause-waits g c = still_waits c.args.waiting.now c.loop.counter c.args.rvg.now.core c.loop.rvg.core c.loop.rvg.core (g.S.Shelf.meaning c.args.rvg.now.shelf) (g.S.Shelf.meaning c.loop.rvg.shelf) (g.S.Shelf.meaning c.loop.rvg.shelf) c.loop.waiting c.loop.invariant c.requires.waits

pub log_next-requires-clause-numbers : goal.log_next-requires-clause-numbers
log_next-requires-clause-numbers g c =
    numbers_left c.args.waiting.now c.loop.counter c.args.rvg.now.core c.loop.rvg.core c.loop.rvg.core (g.S.Shelf.meaning c.args.rvg.now.shelf) (g.S.Shelf.meaning c.loop.rvg.shelf) (g.S.Shelf.meaning c.loop.rvg.shelf) c.loop.waiting c.loop.invariant
    c.args.count (omega (arith, c.loop-test.true)) c.requires.numbers

pub returns-in_err-log_next-clause-blames : goal.returns-in_err-log_next-clause-blames
returns-in_err-log_next-clause-blames g c =
    let p = err_from_is_err_and c.from_residual.result c.from_residual.ensures.1 in
    rw (p.1, p.2) (blamed_since (g.S.Shelf.meaning c.args.rvg.now.shelf) (g.S.Shelf.meaning c.loop.rvg.shelf) c.args.rvg.now.core.units c.loop.rvg.core.units c.in_err-log_next.field-0.0 c.loop.invariant.spends c.loop.invariant.more.units c.in_err-log_next.ensures.blames)

pub returns-in_err-log_next-clause-units : goal.returns-in_err-log_next-clause-units
returns-in_err-log_next-clause-units g c = c.in_err-log_next.ensures.group.units ∙ c.loop.invariant.more.units

pub returns-clause-units : goal.returns-clause-units
returns-clause-units g c = c.loop.invariant.more.units

pub returns-in_err-log_next-clause-moves : goal.returns-in_err-log_next-clause-moves
returns-in_err-log_next-clause-moves g c = then_moves c.args.rvg.now.core c.loop.rvg.core (g.S.Shelf.meaning c.args.rvg.now.shelf) (g.S.Shelf.meaning c.loop.rvg.shelf) (g.S.Shelf.meaning c.log_next.new.rvg.shelf) c.loop.invariant.more.units c.loop.invariant.moves c.log_next.ensures.moves

pub returns-clause-moves : goal.returns-clause-moves
returns-clause-moves g c = c.loop.invariant.moves
