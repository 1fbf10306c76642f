-- `bring`: clauses moves, brings, blames, spends and works; what `bring_one` and `flush_volumes` ask; what stays true in its loop over `n`; that no number grows too large.
use Rattle.std.proofs.Common.{ℕ, ◌≤◌, ◌+◌, subst, arith}
use Rattle.std.proofs.lemmas.Result.{err_from_is_err_and}
use Rattle.vx_rvg.proofs.Blaming.{volumes_exit}
use Rattle.vx_srl.specs.Views.{IsOrdered, all_of}
use Rattle.vx_rvg.specs.Views.{Core, volume_size}
use Rattle.vx_rvg.proofs.ApplyAll.{all_bring, due_few, more_moves, one_brought, rest_moves}
use Rattle.vx_disk.proofs.Spending.{then_spends, works_since}
use Rattle.vx_rvg.proofs.WriteSound.{moved_sizes, placed_same}
use Rattle.vx_rvg.proofs.apply.bring.Goals as goal

pub returns-in_err-count-clause-moves : goal.returns-in_err-count-clause-moves
returns-in_err-count-clause-moves g c = more_moves c.args.core.now c.loop-n.n _ _ _ c.loop-n.count c.loop-n.invariant.0 c.in_err-count.ensures.moves

pub overflow_add-count : goal.overflow_add-count
overflow_add-count g c =
    let brought : _
    = one_brought c.args.core.now c.loop-n.n _ _ _ c.loop-n.count c.loop-n.invariant.0 c.in_ok-count.field-0 c.requires.low (subst (λ (x : Core). x.applied ≤ c.loop-n.n) c.core.view_is c.loop-n.auto.n) c.in_ok-count.ensures.brings c.in_ok-count.ensures.moves
    (c.in_ok-count.ensures.stopped) in
    let ordered : _ = subst (λ (x : Core). IsOrdered x.log.ring x.log.header (all_of x.log)) c.core.view_is c.ring-ring.ensures.ordered in
    omega (arith, brought.count_is, due_few c.args.core.now (volume_size c.args.core.now.units.vols (g.S.Shelf.meaning c.args.shelf.now)) (c.loop-n.n + 1) ordered)

pub loop-n-preserved : goal.loop-n-preserved
loop-n-preserved g c = (
  one_brought c.args.core.now c.loop-n.n _ _ _ c.loop-n.count c.loop-n.invariant.0 c.in_ok-count.field-0 c.requires.low (subst (λ (x : Core). x.applied ≤ c.loop-n.n) c.core.view_is c.loop-n.auto.n) c.in_ok-count.ensures.brings c.in_ok-count.ensures.moves
      (c.in_ok-count.ensures.stopped),
  omega (arith, c.loop-n-test.true),
  then_spends _ _ _ c.loop-n.invariant.2 c.in_ok-count.ensures.spends,
)

pub returns-in_err-flush_volumes-clause-moves : goal.returns-in_err-flush_volumes-clause-moves
returns-in_err-flush_volumes-clause-moves g c = rest_moves c.args.core.now c.loop-n.n _ _ _ c.loop-n.count c.loop-n.invariant.0 c.flush_volumes.ensures.moves

pub returns-clause-brings : goal.returns-clause-brings
returns-clause-brings g c =
    all_bring c.args.core.now c.loop-n.n _ _ _ c.loop-n.count c.loop-n.invariant.0 c.args.to (omega (arith, c.loop-n-test.false, c.loop-n.invariant.1)) c.in_ok-flush_volumes.ensures.flushed

pub returns-clause-moves : goal.returns-clause-moves
returns-clause-moves g c = rest_moves c.args.core.now c.loop-n.n _ _ _ c.loop-n.count c.loop-n.invariant.0 c.flush_volumes.ensures.moves

pub returns-in_err-count-clause-spends : goal.returns-in_err-count-clause-spends
returns-in_err-count-clause-spends g c = then_spends _ _ _ c.loop-n.invariant.2 c.in_err-count.ensures.spends

pub returns-in_err-flush_volumes-clause-spends : goal.returns-in_err-flush_volumes-clause-spends
returns-in_err-flush_volumes-clause-spends g c = then_spends _ _ _ c.loop-n.invariant.2 c.flush_volumes.ensures.spends

pub returns-clause-spends : goal.returns-clause-spends
returns-clause-spends g c = then_spends _ _ _ c.loop-n.invariant.2 c.flush_volumes.ensures.spends

pub returns-clause-works : goal.returns-clause-works
returns-clause-works g c = λ v low. works_since _ _ _ c.loop-n.invariant.2 (c.in_ok-flush_volumes.ensures.works v low)

pub bring_one-requires-clause-placed : goal.bring_one-requires-clause-placed
bring_one-requires-clause-placed g c = placed_same c.args.core.now.units _ _ (moved_sizes _ _ _ _ c.loop-n.invariant.0.moves) c.requires.placed

pub flush_volumes-requires : goal.flush_volumes-requires
flush_volumes-requires g c = record { placed = placed_same c.args.core.now.units _ _ (moved_sizes _ _ _ _ c.loop-n.invariant.0.moves) c.requires.placed }

pub returns-in_err-count-clause-blames : goal.returns-in_err-count-clause-blames
returns-in_err-count-clause-blames g c =
    let p = err_from_is_err_and c.from_residual.result c.from_residual.ensures.1 in
    volumes_exit ℕ (g.S.Shelf.meaning c.args.shelf.now) (g.S.Shelf.meaning c.loop-n.shelf) c.args.core.now.units.vols c.from_residual.result p.0 _ p.1 p.2 c.loop-n.invariant.2 c.in_err-count.ensures.blames

pub returns-in_err-flush_volumes-clause-blames : goal.returns-in_err-flush_volumes-clause-blames
returns-in_err-flush_volumes-clause-blames g c =
    let p = err_from_is_err_and c.from_residual-in_err-flush_volumes.result c.from_residual-in_err-flush_volumes.ensures.1 in
    volumes_exit ℕ (g.S.Shelf.meaning c.args.shelf.now) (g.S.Shelf.meaning c.loop-n.shelf) c.args.core.now.units.vols c.from_residual-in_err-flush_volumes.result p.0 _ p.1 p.2 c.loop-n.invariant.2 c.in_err-flush_volumes.ensures.blames
