-- The end of a replay's copying, case by case.
use Rattle.std.proofs.Common.{◌≡◌, List, subst, sym}
use Rattle.std.specs.Prelude.{Some, Err}
use Rattle.vx_model.specs.declared.call.Update.{Update}
use Rattle.vx_model.specs.declared.state.State.{State as SiteState}
use Rattle.vx_disk.specs.Moves.{Moves}
use Rattle.vx_rvg.specs.Saves.{RestartIs, change_blocks, restart_refusal, with_restart}
use Rattle.vx_rvg.specs.Stands.{Saving}
use Rattle.vx_secondary.specs.Receivers.{Wait}
use Rattle.vx_regions.proofs.Begins.{wait_none}
use Rattle.vx_regions.proofs.Closes.{closed_receiver, restart_done, stopped_wait}
use Rattle.vx_regions.proofs.replay.close.Goals as goal

pub returns-in-Ok-clause-state : goal.returns-in-Ok-clause-state
returns-in-Ok-clause-state g c =
    closed_receiver c.args.secondary.now.rvg.core c.change.new.self.core c.args.secondary.now.waiting c.clear.new.self c.args.told.now c.clear.ensures c.requires.closes
    (subst (λ (s : SiteState). c.change.new.self.core ≡ with_restart c.args.secondary.now.rvg.core s c.args.told.now.last) c.state_of-state.ensures.is (restart_done c.args.secondary.now.rvg.core c.change.new.self.core c.state_of-state.result c.args.told.now.last (g.S.Shelf.meaning c.args.secondary.now.rvg.shelf) (g.S.Shelf.meaning c.change.new.self.shelf) (restart_refusal c.args.secondary.now.rvg.core c.args.told.now.last) tt c.in-Ok.ensures.answers))

pub returns-in-Ok-clause-emptied : goal.returns-in-Ok-clause-emptied
returns-in-Ok-clause-emptied g c =
    subst (λ (s : SiteState). c.change.new.self.core ≡ with_restart c.args.secondary.now.rvg.core s c.args.told.now.last) c.state_of-state.ensures.is (restart_done c.args.secondary.now.rvg.core c.change.new.self.core c.state_of-state.result c.args.told.now.last (g.S.Shelf.meaning c.args.secondary.now.rvg.shelf) (g.S.Shelf.meaning c.change.new.self.shelf) (restart_refusal c.args.secondary.now.rvg.core c.args.told.now.last) tt c.in-Ok.ensures.answers)

pub returns-in-Ok-clause-moves : goal.returns-in-Ok-clause-moves
returns-in-Ok-clause-moves g c =
    subst (λ (s : SiteState). Moves (change_blocks (Some c.args.told.now.last) c.args.secondary.now.rvg.core (g.S.Shelf.meaning c.args.secondary.now.rvg.shelf)) (Saving c.args.secondary.now.rvg.core (with_restart c.args.secondary.now.rvg.core s c.args.told.now.last) (g.S.Shelf.meaning c.args.secondary.now.rvg.shelf)) (g.S.Shelf.meaning c.args.secondary.now.rvg.shelf) (g.S.Shelf.meaning c.change.new.self.shelf)) c.state_of-state.ensures.is c.change.ensures.moves

pub returns-in-Err-clause-moves : goal.returns-in-Err-clause-moves
returns-in-Err-clause-moves g c =
    subst (λ (s : SiteState). Moves (change_blocks (Some c.args.told.now.last) c.args.secondary.now.rvg.core (g.S.Shelf.meaning c.args.secondary.now.rvg.shelf)) (Saving c.args.secondary.now.rvg.core (with_restart c.args.secondary.now.rvg.core s c.args.told.now.last) (g.S.Shelf.meaning c.args.secondary.now.rvg.shelf)) (g.S.Shelf.meaning c.args.secondary.now.rvg.shelf) (g.S.Shelf.meaning c.change.new.self.shelf)) c.state_of-state.ensures.is c.change.ensures.moves

pub returns-in-Err-clause-ends : goal.returns-in-Err-clause-ends
returns-in-Err-clause-ends g c =
    subst (λ (s : SiteState). RestartIs (restart_refusal c.args.secondary.now.rvg.core c.args.told.now.last) c.args.secondary.now.rvg.core (with_restart c.args.secondary.now.rvg.core s c.args.told.now.last) (g.S.Shelf.meaning c.args.secondary.now.rvg.shelf) (g.S.Shelf.meaning c.change.new.self.shelf) c.change.new.self.core (Err c.in-Err.no)) c.state_of-state.ensures.is c.in-Err.ensures.answers

pub state_of-state-requires-clause-replay : goal.state_of-state-requires-clause-replay
state_of-state-requires-clause-replay g c = c.requires.replay

pub invariant_of-secondary : goal.invariant_of-secondary
invariant_of-secondary g c = record {
  waits = subst (λ (ws : List Update). Wait c.change.new.self.core (g.S.Shelf.meaning c.change.new.self.shelf).size ws) (sym c.clear.ensures) (wait_none c.change.new.self.core (g.S.Shelf.meaning c.change.new.self.shelf).size);
}

pub invariant_of-secondary-in-Err-1 : goal.invariant_of-secondary-in-Err-1
invariant_of-secondary-in-Err-1 g c = record {
  waits =
      stopped_wait c.args.secondary.now.rvg.core c.change.new.self.core (with_restart c.args.secondary.now.rvg.core c.state_of-state.result c.args.told.now.last) (g.S.Shelf.meaning c.args.secondary.now.rvg.shelf) (g.S.Shelf.meaning c.change.new.self.shelf) (restart_refusal c.args.secondary.now.rvg.core c.args.told.now.last) c.in-Err.no c.in-Err.ensures.answers c.change.ensures.moves.size c.args.secondary.now.waiting
      c.args.secondary.now.waits;
}
