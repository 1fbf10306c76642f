-- `start_in`: clauses cause, left, starts, moves, spent and spends; what `take_up` asks; the invariant of what it hands on.
use Rattle.std.proofs.Common.{◌*◌, ◌≤◌, ◌∙◌, ap, arith, subst, sym}
use Rattle.vx_model.specs.declared.limits.TheConstants.{LINK_PLACES}
use Rattle.vx_disk.specs.Maps.{maps_of}
use Rattle.vx_rvg.specs.Starts.{Room}
use Rattle.vx_rvg.proofs.MapStands.{room_as}
use Rattle.vx_rvg.proofs.StartStands.{all_moves, fill_stops, group_sound, group_started, log_moves, log_stops}
use Rattle.vx_disk.proofs.Spending.{then_spends}
use Rattle.vx_rvg.proofs.WriteSound.{moved_sizes, placed_same}
use Rattle.vx_rvg.proofs.group.Rvg.start_in.Goals as goal

pub returns-in-Err-clause-cause : goal.returns-in-Err-clause-cause
returns-in-Err-clause-cause g c = log_stops c.args.units.now (g.S.Shelf.meaning c.args.shelf) (g.S.Shelf.meaning c.start_in.new.shelf) c.in-Err.no c.in-Err.ensures.starts

pub returns-in-Err-clause-left : goal.returns-in-Err-clause-left
returns-in-Err-clause-left g c = log_moves c.args.units.now (g.S.Shelf.meaning c.args.shelf) (g.S.Shelf.meaning c.start_in.new.shelf) c.requires.placed c.in-Err.ensures.moves

pub returns-in-Err-take_up-clause-cause : goal.returns-in-Err-take_up-clause-cause
returns-in-Err-take_up-clause-cause g c =
    fill_stops c.args.units.now (g.S.Shelf.meaning c.args.shelf) (g.S.Shelf.meaning c.start_in.new.shelf) c.requires.placed c.in-Ok.ensures.moves c.in-Ok.srl c.in-Ok.ensures.starts.0
    (g.S.Shelf.meaning c.take_up.new.shelf) c.in-Err-take_up.no c.in-Err-take_up.ensures.cause

pub returns-in-Err-take_up-clause-left : goal.returns-in-Err-take_up-clause-left
returns-in-Err-take_up-clause-left g c =
    all_moves c.args.units.now (g.S.Shelf.meaning c.args.shelf) (g.S.Shelf.meaning c.start_in.new.shelf) c.requires.placed c.in-Ok.ensures.moves c.in-Ok.srl c.in-Ok.ensures.starts.0
    (g.S.Shelf.meaning c.take_up.new.shelf) c.take_up.ensures.goes

pub invariant_of-result : goal.invariant_of-result
invariant_of-result g c = record {
  sound =
      group_sound c.args.units.now (g.S.Shelf.meaning c.args.shelf) (g.S.Shelf.meaning c.start_in.new.shelf) c.requires.placed c.in-Ok.ensures.moves c.in-Ok.srl c.in-Ok.ensures.starts.0
      c.requires.large c.low-applied.ensures.some (g.S.Shelf.meaning c.take_up.new.shelf) c.take_up.ensures.goes c.in-Ok-take_up.ensures.up c.take_up.new.pending
      (c.take_up.ensures.capacity ∙ c.room.invariant.room ∙ ap (λ (r : Room). r.ring) c.room.view_is ∙ c.requires.room) c.in-Ok-take_up.ensures.filled _ (omega arith) c.in-Ok-take_up.maps c.in-Ok-take_up.ensures.loaded c.in-Ok-take_up.ensures.marks c.copy.result c.copy.ensures;
}

pub returns-clause-starts : goal.returns-clause-starts
returns-clause-starts g c =
    group_started c.args.units.now (g.S.Shelf.meaning c.args.shelf) (g.S.Shelf.meaning c.start_in.new.shelf) c.requires.placed c.in-Ok.ensures.moves c.in-Ok.srl c.in-Ok.ensures.starts.0
    c.requires.large c.low-applied.ensures.some (g.S.Shelf.meaning c.take_up.new.shelf) c.take_up.ensures.goes c.in-Ok-take_up.ensures.up c.take_up.new.pending
    (c.take_up.ensures.capacity ∙ c.room.invariant.room ∙ ap (λ (r : Room). r.ring) c.room.view_is ∙ c.requires.room) c.in-Ok-take_up.ensures.filled _ (omega arith) c.in-Ok-take_up.maps c.in-Ok-take_up.ensures.loaded c.in-Ok-take_up.ensures.marks c.copy.result c.copy.ensures

pub returns-clause-moves : goal.returns-clause-moves
returns-clause-moves g c =
    all_moves c.args.units.now (g.S.Shelf.meaning c.args.shelf) (g.S.Shelf.meaning c.start_in.new.shelf) c.requires.placed c.in-Ok.ensures.moves c.in-Ok.srl c.in-Ok.ensures.starts.0
    (g.S.Shelf.meaning c.take_up.new.shelf) c.take_up.ensures.goes

pub returns-in-Err-take_up-clause-spent : goal.returns-in-Err-take_up-clause-spent
returns-in-Err-take_up-clause-spent g c = then_spends _ _ _ c.start_in.ensures.spends c.take_up.ensures.spends

pub returns-clause-spends : goal.returns-clause-spends
returns-clause-spends g c = then_spends _ _ _ c.start_in.ensures.spends c.take_up.ensures.spends

pub take_up-requires-clause-placed : goal.take_up-requires-clause-placed
take_up-requires-clause-placed g c = placed_same c.args.units.now _ _ (moved_sizes _ _ _ _ c.in-Ok.ensures.moves) c.requires.placed

pub take_up-requires-clause-maps : goal.take_up-requires-clause-maps
take_up-requires-clause-maps g c =
    room_as c.args.units.now _ (g.S.Shelf.meaning c.args.shelf) (g.S.Shelf.meaning c.start_in.new.shelf) c.in-Ok.ensures.moves.size
    (subst (λ (r : Room). LINK_PLACES * maps_of c.args.units.now.vols (g.S.Shelf.meaning c.args.shelf) ≤ r.maps) (sym c.room.view_is) c.requires.maps)
