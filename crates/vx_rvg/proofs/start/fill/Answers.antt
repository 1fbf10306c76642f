-- `fill`: clauses goes, spends and cause; what `add_within` asks; what stays true in its loop over `before`.
use Rattle.std.proofs.Common.{arith, ◌+◌, subst, sym}
use Rattle.vx_model.specs.declared.no.No.{No}
use Rattle.vx_disk.specs.Shelf.{Nothing}
use Rattle.vx_disk.proofs.Runs.{then_nothing}
use Rattle.vx_rvg.specs.Fills.{FillCause}
use Rattle.vx_rvg.proofs.StartFill.{begun, filling_stops, room_for, went_on}
use Rattle.vx_disk.proofs.Spending.{spends_none, then_spends}
use Rattle.vx_rvg.proofs.ReadStands.{rest_sizes}
use Rattle.vx_rvg.proofs.WriteSound.{placed_same}
use Rattle.vx_rvg.proofs.start.fill.Goals as goal

pub returns-in-Err-clause-goes : goal.returns-in-Err-clause-goes
returns-in-Err-clause-goes g c = then_nothing Nothing _ _ _ c.loop-before.invariant.0.goes c.fetch.ensures.goes

pub add_within-requires-clause-room : goal.add_within-requires-clause-room
add_within-requires-clause-room g c =
    room_for c.args.srl.now c.args.units.now.vols (g.S.Shelf.meaning c.args.shelf.now) (g.S.Shelf.meaning c.loop-before.shelf) (g.S.Shelf.meaning c.fetch.new.shelf) _ _ c.loop-before.pending
    c.loop-before.invariant.0 (c.loop-before.before + 1) (omega arith) c.fetch.new.into c.in_default.ensures.agrees c.ring-ring.ensures.ordered (omega arith)

pub loop-before-preserved : goal.loop-before-preserved
loop-before-preserved g c = (
  went_on c.args.srl.now c.args.units.now.vols (g.S.Shelf.meaning c.args.shelf.now) (g.S.Shelf.meaning c.loop-before.shelf) (g.S.Shelf.meaning c.fetch.new.shelf) _ _ c.loop-before.pending
      c.loop-before.invariant.0 (c.loop-before.before + 1) (omega arith) c.fetch.new.into c.in_default.ensures.agrees c.in_default.ensures.gives c.fetch.ensures.goes
      c.in_default.ensures.up
      c.add_within.new.pending c.add_within.ensures.entries c.add_within.ensures.capacity _ (omega arith),
  then_spends _ _ _ c.loop-before.invariant.1 c.fetch.ensures.spends,
)

pub returns-in-Err-clause-spends : goal.returns-in-Err-clause-spends
returns-in-Err-clause-spends g c = then_spends _ _ _ c.loop-before.invariant.1 c.fetch.ensures.spends

pub loop-before-init : goal.loop-before-init
loop-before-init g c = (begun c.args.srl.now c.args.units.now.vols (g.S.Shelf.meaning c.args.shelf.now) _ _ c.args.pending.now c.requires.up c.requires.none c.requires.room (omega arith), spends_none _)

pub returns-in-Err-clause-cause : goal.returns-in-Err-clause-cause
returns-in-Err-clause-cause g c =
    subst (λ (k : No). FillCause c.args.srl.now (g.S.Shelf.meaning c.args.shelf.now) (g.S.Shelf.meaning c.fetch.new.shelf) k) (sym c.refused.ensures)
    (filling_stops c.args.srl.now c.args.units.now.vols (g.S.Shelf.meaning c.args.shelf.now) (g.S.Shelf.meaning c.loop-before.shelf) (g.S.Shelf.meaning c.fetch.new.shelf) _ _ c.loop-before.pending c.loop-before.invariant.0
    (c.loop-before.before + 1) c.in-Err.why (c.in-Err.ensures.cause (omega arith)) (c.in-Err.ensures.names (omega arith)))

pub add_within-requires-clause-placed : goal.add_within-requires-clause-placed
add_within-requires-clause-placed g c =
    placed_same c.args.units.now _ _ (rest_sizes _ _ (then_nothing Nothing _ _ _ c.loop-before.invariant.0.goes c.fetch.ensures.goes)) c.requires.placed
