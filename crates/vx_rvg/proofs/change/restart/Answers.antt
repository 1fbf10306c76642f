-- The group behind a restart of its log.
use Rattle.std.proofs.Common.{◌≤◌, ap, arith}
use Rattle.vx_rvg.specs.Views.{Core, last_of}
use Rattle.vx_rvg.proofs.Blaming.{blames_idle, blames_since, works_behind}
use Rattle.vx_rvg.proofs.ChangeCalls.{calls_since, short_same, short_since}
use Rattle.vx_rvg.proofs.RestartMoves.{applied_by, apply_part, restart_part}
use Rattle.vx_disk.proofs.Spending.{then_spends}
use Rattle.vx_rvg.proofs.change.restart.Goals as goal

pub returns-in-Err-clause-moves : goal.returns-in-Err-clause-moves
returns-in-Err-clause-moves g c = apply_part c.args.core.now c.args.state.now c.args.head (g.S.Shelf.meaning c.args.shelf.now) (g.S.Shelf.meaning c.apply_to.new.shelf) c.apply_to.ensures.moves

pub returns-in-Ok-clause-moves : goal.returns-in-Ok-clause-moves
returns-in-Ok-clause-moves g c =
    let applied = applied_by c.args.core.now.halted c.args.core.now _ (g.S.Shelf.meaning c.args.shelf.now) (g.S.Shelf.meaning c.apply_to.new.shelf) c.apply_to.new.core c.in-Ok.field-0 c.in-Ok.ensures.answers in
    restart_part c.args.core.now c.args.state.now c.args.head (g.S.Shelf.meaning c.args.shelf.now) (g.S.Shelf.meaning c.apply_to.new.shelf) c.apply_to.ensures.moves
    c.apply_to.new.core c.in-Ok.field-0 applied.0 applied.1 c.in-Ok.ensures.stands (g.S.Shelf.meaning c.empty.new.shelf) c.empty.ensures.moves

pub returns-in-Ok-clause-spends : goal.returns-in-Ok-clause-spends
returns-in-Ok-clause-spends g c = then_spends _ _ _ c.apply_to.ensures.spends c.empty.ensures.spends

pub returns-in-Ok-clause-calls : goal.returns-in-Ok-clause-calls
returns-in-Ok-clause-calls g c =
    calls_since (last_of c.args.core.now ≤ c.args.core.now.applied) 2 c.empty.result (g.S.Shelf.meaning c.args.shelf.now) (g.S.Shelf.meaning c.apply_to.new.shelf) (g.S.Shelf.meaning c.empty.new.shelf)
    (λ low. ap g.S.Shelf.meaning (c.apply_to.ensures.nothing (omega (arith, low, c.head-last.ensures, ap (λ (k : Core). last_of k) c.core.view_is)))) c.empty.ensures.calls

pub returns-in-Ok-clause-short : goal.returns-in-Ok-clause-short
returns-in-Ok-clause-short g c = λ low.
    short_since 2 (g.S.Shelf.meaning c.args.shelf.now) (g.S.Shelf.meaning c.apply_to.new.shelf) (g.S.Shelf.meaning c.empty.new.shelf)
    (ap g.S.Shelf.meaning (c.apply_to.ensures.nothing (omega (arith, low, c.head-last.ensures, ap (λ (k : Core). last_of k) c.core.view_is)))) c.empty.ensures.short

pub returns-in-Err-clause-short : goal.returns-in-Err-clause-short
returns-in-Err-clause-short g c = λ low.
    short_same 2 (g.S.Shelf.meaning c.args.shelf.now) (g.S.Shelf.meaning c.apply_to.new.shelf)
    (ap g.S.Shelf.meaning (c.apply_to.ensures.nothing (omega (arith, low, c.head-last.ensures, ap (λ (k : Core). last_of k) c.core.view_is))))

pub returns-in-Err-clause-blames : goal.returns-in-Err-clause-blames
returns-in-Err-clause-blames g c = λ low.
    blames_idle (g.S.Shelf.meaning c.args.shelf.now).disks c.args.core.now.log.unit c.in-Err.no (c.in-Err.ensures.idle (omega (arith, low, c.head-last.ensures, ap (λ (k : Core). last_of k) c.core.view_is)))

pub returns-in-Ok-clause-blames : goal.returns-in-Ok-clause-blames
returns-in-Ok-clause-blames g c = λ low.
    let applied = applied_by c.args.core.now.halted c.args.core.now _ (g.S.Shelf.meaning c.args.shelf.now) (g.S.Shelf.meaning c.apply_to.new.shelf) c.apply_to.new.core c.in-Ok.field-0 c.in-Ok.ensures.answers in
    blames_since c.empty.result (g.S.Shelf.meaning c.args.shelf.now) (g.S.Shelf.meaning c.apply_to.new.shelf) c.args.core.now c.apply_to.new.core
    (ap g.S.Shelf.meaning (c.apply_to.ensures.nothing (omega (arith, low, c.head-last.ensures, ap (λ (k : Core). last_of k) c.core.view_is)))) (ap (λ (k : Core). k.log) applied.1) c.empty.ensures.blames

pub returns-in-Ok-clause-works : goal.returns-in-Ok-clause-works
returns-in-Ok-clause-works g c =
    let applied = applied_by c.args.core.now.halted c.args.core.now _ (g.S.Shelf.meaning c.args.shelf.now) (g.S.Shelf.meaning c.apply_to.new.shelf) c.apply_to.new.core c.in-Ok.field-0 c.in-Ok.ensures.answers in
    works_behind c.empty.result (g.S.Shelf.meaning c.args.shelf.now) (g.S.Shelf.meaning c.apply_to.new.shelf) c.args.core.now c.apply_to.new.core c.apply_to.ensures.spends (ap (λ (k : Core). k.log) applied.1) c.empty.ensures.works

pub returns-in-Err-clause-stands : goal.returns-in-Err-clause-stands
returns-in-Err-clause-stands g c = tt

pub returns-in-Err-clause-calls : goal.returns-in-Err-clause-calls
returns-in-Err-clause-calls g c = tt

pub returns-in-Err-clause-works : goal.returns-in-Err-clause-works
returns-in-Err-clause-works g c = tt
