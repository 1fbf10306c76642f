-- The group behind a new state.
use Rattle.std.proofs.Common.{arith, refl, subst, ◌+◌}
use Rattle.vx_disk.specs.Causes.{BlamesUnit, Works}
use Rattle.vx_disk.specs.Moves.{Moves, Run}
use Rattle.vx_srl.specs.Headers.{with_header_state}
use Rattle.vx_rvg.specs.Saves.{with_new_state}
use Rattle.vx_rvg.specs.Stands.{Retains, Saving}
use Rattle.vx_rvg.specs.contracts.rvg_core.RvgCore.{the_view}
use Rattle.vx_rvg.specs.declared.group.Rvg.{Rvg}
use Rattle.vx_rvg.proofs.Blaming.{blames_of}
use Rattle.vx_rvg.proofs.SaveCalls.{saved_sound, set_cases, set_done, state_low, state_rests}
use Rattle.vx_rvg.proofs.SaveStands.{save_moves}
use Rattle.vx_rvg.proofs.group.Rvg.set_state.Goals as goal

pub invariant_of-self-inside : goal.invariant_of-self-inside
invariant_of-self-inside g c = record {
  sound = saved_sound (the_view c.self.inside.0.1.0) (with_header_state c.self.inside.0.1.0.srl c.args.state.now) 0 c.set_state.new.self _ _ (g.S.Shelf.meaning c.self.inside.0.0) (g.S.Shelf.meaning c.set_state.new.shelf)
      c.set_state.ensures.goes (state_low c.self.inside.0.1.0.srl c.args.state.now) (omega arith) c.low-low.ensures.some c.self.inside.1.0
      (set_cases c.self.inside.0.1.0.srl c.set_state.new.self c.args.state.now (g.S.Shelf.meaning c.self.inside.0.0) (g.S.Shelf.meaning c.set_state.new.shelf) c.set_state.result c.self.inside.0.0 c.set_state.new.shelf c.set_state.ensures.limit c.set_state.ensures.saves);
}

pub returns-in-Err-clause-moves : goal.returns-in-Err-clause-moves
returns-in-Err-clause-moves g c =
    subst (λ (r : Rvg g.row.S.Denot g.S.Shelf). Moves (Run r.core.units.srl 0 (r.core.log.ring + 2)) (Saving r.core (with_new_state r.core c.args.state.now) (g.S.Shelf.meaning r.shelf)) (g.S.Shelf.meaning r.shelf) (g.S.Shelf.meaning c.set_state.new.shelf)) c.self.view_is
    (save_moves (the_view c.self.inside.0.1.0) (with_header_state c.self.inside.0.1.0.srl c.args.state.now) 0 (state_low c.self.inside.0.1.0.srl c.args.state.now) (omega arith) c.low-low.ensures.some (g.S.Shelf.meaning c.self.inside.0.0) (g.S.Shelf.meaning c.set_state.new.shelf) c.self.inside.1.0 c.set_state.ensures.goes)

pub returns-clause-moves : goal.returns-clause-moves
returns-clause-moves g c =
    subst (λ (r : Rvg g.row.S.Denot g.S.Shelf). Moves (Run r.core.units.srl 0 (r.core.log.ring + 2)) (Saving r.core (with_new_state r.core c.args.state.now) (g.S.Shelf.meaning r.shelf)) (g.S.Shelf.meaning r.shelf) (g.S.Shelf.meaning c.set_state.new.shelf)) c.self.view_is
    (save_moves (the_view c.self.inside.0.1.0) (with_header_state c.self.inside.0.1.0.srl c.args.state.now) 0 (state_low c.self.inside.0.1.0.srl c.args.state.now) (omega arith) c.low-low.ensures.some (g.S.Shelf.meaning c.self.inside.0.0) (g.S.Shelf.meaning c.set_state.new.shelf) c.self.inside.1.0 c.set_state.ensures.goes)

pub returns-clause-stands : goal.returns-clause-stands
returns-clause-stands g c =
    subst (λ (r : Rvg g.row.S.Denot g.S.Shelf). Retains r.core (record (the_view c.self.inside.0.1.0) { log = c.set_state.new.self }) (g.S.Shelf.meaning r.shelf) (g.S.Shelf.meaning c.set_state.new.shelf)) c.self.view_is
    (state_rests (the_view c.self.inside.0.1.0) c.args.state.now c.low-low.ensures.some (g.S.Shelf.meaning c.self.inside.0.0) (g.S.Shelf.meaning c.set_state.new.shelf) c.self.inside.1.0 c.set_state.ensures.goes
    c.set_state.new.self c.in_default-set_state.ensures.leads
    (set_done c.self.inside.0.1.0.srl c.set_state.new.self c.args.state.now (g.S.Shelf.meaning c.self.inside.0.0) (g.S.Shelf.meaning c.set_state.new.shelf) c.set_state.result c.self.inside.0.0 c.set_state.new.shelf
    c.in_default-set_state.field-0 c.in_default-set_state.is c.set_state.ensures.limit c.set_state.ensures.saves))

pub returns-in-Err-clause-blames : goal.returns-in-Err-clause-blames
returns-in-Err-clause-blames g c =
    subst (λ (r : Rvg g.row.S.Denot g.S.Shelf). BlamesUnit (g.S.Shelf.meaning r.shelf).disks r.core.log.unit c.refused-no.result) c.self.view_is
    (blames_of (g.S.Shelf.meaning c.self.inside.0.0).disks _ _ c.in-Err.why c.refused-no.result refl c.refused-no.ensures c.in-Err.ensures.blames)

pub returns-clause-works : goal.returns-clause-works
returns-clause-works g c = subst (λ (r : Rvg g.row.S.Denot g.S.Shelf). Works (g.S.Shelf.meaning r.shelf).disks r.core.log.unit) c.self.view_is c.in_default-set_state.ensures.works
