-- What waits is logged and applied, case by case.
use Rattle.std.proofs.Common.{◌≡◌, ◌+◌, ◌∙◌, ℕ, arith, refl, subst, sym}
use Rattle.std.specs.Prelude.{IfOk, Result}
use Rattle.vx_model.specs.declared.no.No.{No}
use Rattle.vx_diskset.specs.declared.receivers.Reached.{Reached}
use Rattle.std.proofs.lemmas.Result.{err_from_is_err_and}
use Rattle.vx_disk.proofs.Spending.{then_spends}
use Rattle.vx_diskset.specs.Received.{reached}
use Rattle.vx_diskset.proofs.Blamed.{blamed_since}
use Rattle.vx_diskset.proofs.Reaching.{applied_all, applied_done, applied_failed}
use Rattle.vx_diskset.proofs.Receiving.{durable_of, receiver_up}
use Rattle.vx_diskset.proofs.RvgMoves.{then_moves}
use Rattle.vx_diskset.proofs.receivers.apply_oldest.Goals as goal

pub returns-in_err-log_waiting-clause-reaches : goal.returns-in_err-log_waiting-clause-reaches
returns-in_err-log_waiting-clause-reaches g c = λ beside n r can.
    let p = err_from_is_err_and c.from_residual.result c.from_residual.ensures.1 in
    rw (p.1, p.2) (c.in_err-log_waiting.ensures.logs beside n r can)

pub returns-in_err-apply_group-clause-reaches : goal.returns-in_err-apply_group-clause-reaches
returns-in_err-apply_group-clause-reaches g c = λ beside n r can.
    let lawful = g.met.S.Shelf.lawful in
    let number : ℕ = n.safe + c.args.count in
    let here = c.in_ok-log_waiting.ensures.logs beside n r can in
    let p = err_from_is_err_and c.from_residual-in_err-apply_group.result c.from_residual-in_err-apply_group.ensures.1 in
    rw (p.1, p.2)
    (applied_failed n number c.log_waiting.new.rvg.core c.apply_group.new.rvg.core c.log_waiting.new.waiting (g.S.Shelf.meaning c.args.rvg.now.shelf) (g.S.Shelf.meaning c.log_waiting.new.rvg.shelf) (g.S.Shelf.meaning c.apply_group.new.rvg.shelf) (omega arith) (omega (arith, r.least, r.most)) here can.running
    c.log_waiting.ensures.later.counts c.args.count c.head-number.result c.in_err-apply_group.field-0.0 (omega arith)
    (c.in_err-apply_group.ensures.applied beside (durable_of (reached n number)) (receiver_up (reached n number) c.log_waiting.new.rvg.core c.log_waiting.new.waiting (g.S.Shelf.meaning c.log_waiting.new.rvg.shelf) here can.running (lawful c.log_waiting.new.rvg.shelf) c.log_waiting.new.rvg.sound.log_unit) can.running))

pub returns-clause-reaches : goal.returns-clause-reaches
returns-clause-reaches g c = λ beside n r can.
    let lawful = g.met.S.Shelf.lawful in
    let number : ℕ = n.safe + c.args.count in
    let here = c.in_ok-log_waiting.ensures.logs beside n r can in (
      c.head-number.ensures ∙ here.head can.running,
      refl,
      applied_done n number c.log_waiting.new.rvg.core c.apply_group.new.rvg.core c.log_waiting.new.waiting (g.S.Shelf.meaning c.args.rvg.now.shelf) (g.S.Shelf.meaning c.log_waiting.new.rvg.shelf) (g.S.Shelf.meaning c.apply_group.new.rvg.shelf) (omega arith) (omega (arith, r.least, r.most)) here can.running
          c.log_waiting.ensures.later.counts c.head-number.result c.in_ok-apply_group.field-0
          (c.in_ok-apply_group.ensures.applied beside (durable_of (reached n number)) (receiver_up (reached n number) c.log_waiting.new.rvg.core c.log_waiting.new.waiting (g.S.Shelf.meaning c.log_waiting.new.rvg.shelf) here can.running (lawful c.log_waiting.new.rvg.shelf) c.log_waiting.new.rvg.sound.log_unit) can.running),
    )

pub returns-in_err-log_waiting-clause-off : goal.returns-in_err-log_waiting-clause-off
returns-in_err-log_waiting-clause-off g c = λ up.
    let p = err_from_is_err_and c.from_residual.result c.from_residual.ensures.1 in
    rw (p.1, p.2) (c.in_err-log_waiting.ensures.off up)

pub returns-in_err-apply_group-clause-off : goal.returns-in_err-apply_group-clause-off
returns-in_err-apply_group-clause-off g c = λ up.
    let p = err_from_is_err_and c.from_residual-in_err-apply_group.result c.from_residual-in_err-apply_group.ensures.1 in
    rw (p.1, p.2) c.in_err-apply_group.ensures.off

pub returns-in_err-apply_group-clause-spends : goal.returns-in_err-apply_group-clause-spends
returns-in_err-apply_group-clause-spends g c = then_spends (g.S.Shelf.meaning c.args.rvg.now.shelf) (g.S.Shelf.meaning c.log_waiting.new.rvg.shelf) (g.S.Shelf.meaning c.apply_group.new.rvg.shelf) c.log_waiting.ensures.spends c.apply_group.ensures.spends

pub returns-clause-spends : goal.returns-clause-spends
returns-clause-spends g c = then_spends (g.S.Shelf.meaning c.args.rvg.now.shelf) (g.S.Shelf.meaning c.log_waiting.new.rvg.shelf) (g.S.Shelf.meaning c.apply_group.new.rvg.shelf) c.log_waiting.ensures.spends c.apply_group.ensures.spends

pub returns-in_err-apply_group-clause-waits : goal.returns-in_err-apply_group-clause-waits
returns-in_err-apply_group-clause-waits g c = c.apply_group.ensures.waiting c.log_waiting.new.waiting c.log_waiting.ensures.waits

pub returns-clause-waits : goal.returns-clause-waits
returns-clause-waits g c = c.apply_group.ensures.waiting c.log_waiting.new.waiting c.log_waiting.ensures.waits

pub returns-in_err-log_waiting-clause-brought : goal.returns-in_err-log_waiting-clause-brought
returns-in_err-log_waiting-clause-brought g c = λ beside n r can.
    let p = err_from_is_err_and c.from_residual.result c.from_residual.ensures.1 in
    subst (λ (a : Result Reached No). IfOk a (λ (x : Reached). c.log_waiting.new.rvg.core.applied ≡ x.number)) (sym p.1) tt

pub returns-in_err-apply_group-clause-brought : goal.returns-in_err-apply_group-clause-brought
returns-in_err-apply_group-clause-brought g c = λ beside n r can.
    let p = err_from_is_err_and c.from_residual-in_err-apply_group.result c.from_residual-in_err-apply_group.ensures.1 in
    subst (λ (a : Result Reached No). IfOk a (λ (x : Reached). c.apply_group.new.rvg.core.applied ≡ x.number)) (sym p.1) tt

pub returns-clause-brought : goal.returns-clause-brought
returns-clause-brought g c = λ beside n r can.
    let lawful = g.met.S.Shelf.lawful in
    let number : ℕ = n.safe + c.args.count in
    let here = c.in_ok-log_waiting.ensures.logs beside n r can in
    c.in_ok-apply_group.ensures.reached
    ∙ applied_all n number c.log_waiting.new.rvg.core c.apply_group.new.rvg.core c.log_waiting.new.waiting (g.S.Shelf.meaning c.args.rvg.now.shelf) (g.S.Shelf.meaning c.log_waiting.new.rvg.shelf) (g.S.Shelf.meaning c.apply_group.new.rvg.shelf) (omega arith) (omega (arith, r.least, r.most)) here can.running
    c.log_waiting.ensures.later.counts c.head-number.result c.in_ok-apply_group.field-0 (c.head-number.ensures ∙ here.head can.running)
    (c.in_ok-apply_group.ensures.applied beside (durable_of (reached n number)) (receiver_up (reached n number) c.log_waiting.new.rvg.core c.log_waiting.new.waiting (g.S.Shelf.meaning c.log_waiting.new.rvg.shelf) here can.running (lawful c.log_waiting.new.rvg.shelf) c.log_waiting.new.rvg.sound.log_unit) can.running)
    ∙ sym (c.head-number.ensures ∙ here.head can.running)

pub returns-in_err-log_waiting-clause-blames : goal.returns-in_err-log_waiting-clause-blames
returns-in_err-log_waiting-clause-blames g c =
    let p = err_from_is_err_and c.from_residual.result c.from_residual.ensures.1 in
    rw (p.1, p.2) c.in_err-log_waiting.ensures.blames

pub returns-in_err-apply_group-clause-blames : goal.returns-in_err-apply_group-clause-blames
returns-in_err-apply_group-clause-blames g c =
    let p = err_from_is_err_and c.from_residual-in_err-apply_group.result c.from_residual-in_err-apply_group.ensures.1 in
    rw (p.1, p.2) (blamed_since (g.S.Shelf.meaning c.args.rvg.now.shelf) (g.S.Shelf.meaning c.log_waiting.new.rvg.shelf) c.args.rvg.now.core.units c.log_waiting.new.rvg.core.units c.in_err-apply_group.field-0.0 c.log_waiting.ensures.spends c.log_waiting.ensures.units c.in_err-apply_group.ensures.blames)

pub returns-in_err-log_waiting-clause-moves : goal.returns-in_err-log_waiting-clause-moves
returns-in_err-log_waiting-clause-moves g c = c.log_waiting.ensures.moves

pub returns-in_err-apply_group-clause-moves : goal.returns-in_err-apply_group-clause-moves
returns-in_err-apply_group-clause-moves g c = then_moves c.args.rvg.now.core c.log_waiting.new.rvg.core (g.S.Shelf.meaning c.args.rvg.now.shelf) (g.S.Shelf.meaning c.log_waiting.new.rvg.shelf) (g.S.Shelf.meaning c.apply_group.new.rvg.shelf) c.log_waiting.ensures.units c.log_waiting.ensures.moves c.apply_group.ensures.moves

pub returns-clause-moves : goal.returns-clause-moves
returns-clause-moves g c = then_moves c.args.rvg.now.core c.log_waiting.new.rvg.core (g.S.Shelf.meaning c.args.rvg.now.shelf) (g.S.Shelf.meaning c.log_waiting.new.rvg.shelf) (g.S.Shelf.meaning c.apply_group.new.rvg.shelf) c.log_waiting.ensures.units c.log_waiting.ensures.moves c.apply_group.ensures.moves
