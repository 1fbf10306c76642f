-- `create`: clauses stands, moves, left and spends; what `load_in` asks; the invariant of what it hands on.
use Rattle.std.proofs.Common.{◌≤◌, ◌∙◌, Bool, IsTrue, ap, arith, subst, sym}
use Rattle.vx_model.specs.Sizes.{ring_of}
use Rattle.vx_disk.specs.Moves.{Anything}
use Rattle.vx_disk.specs.Shelf.{Meaning}
use Rattle.vx_disk.proofs.Spending.{then_spends}
use Rattle.vx_rvg.proofs.ContentFacts.{maps_moved}
use Rattle.vx_rvg.proofs.MakeStands.{new_sound, new_stands}
use Rattle.vx_rvg.proofs.MapStands.{anything_rests, down_as, is_up, loaded_rests, maps_need, marks_read, new_log_rests, room_as}
use Rattle.vx_rvg.proofs.StartStands.{ring_lies}
use Rattle.vx_rvg.proofs.WriteLog.{cause_from}
use Rattle.vx_rvg.proofs.WriteSound.{moved_sizes, placed_same}
use Rattle.vx_rvg.proofs.group.Rvg.create.Goals as goal

pub room_blocks-requires : goal.room_blocks-requires
room_blocks-requires g c = maps_need c.args.units.now (g.S.Shelf.meaning c.args.shelf) c.requires.placed

pub load_in-requires-clause-fit : goal.load_in-requires-clause-fit
load_in-requires-clause-fit g c = maps_need c.args.units.now (g.S.Shelf.meaning c.create.new.shelf) (placed_same c.args.units.now _ _ (moved_sizes _ _ _ _ c.in-Ok-create.ensures.moves) c.requires.placed)

pub load_in-requires-clause-up : goal.load_in-requires-clause-up
load_in-requires-clause-up g c =
    let large : 8 ≤ (g.S.Shelf.meaning c.args.shelf).size c.args.units.now.srl = omega (arith, c.if-blocks-lt-LEAST_BLOCKS.false, c.size-blocks.ensures) in
    is_up _ (c.in-Ok-create.ensures.makes large (omega arith)).1

pub load_in-requires-clause-room : goal.load_in-requires-clause-room
load_in-requires-clause-room g c =
    room_as c.args.units.now _ (g.S.Shelf.meaning c.args.shelf) (g.S.Shelf.meaning c.create.new.shelf) c.in-Ok-create.ensures.moves.size (omega (arith, c.in-Ok-new.ensures, c.room_blocks.ensures))

pub returns-in-Ok-load_in-clause-stands : goal.returns-in-Ok-load_in-clause-stands
returns-in-Ok-load_in-clause-stands g c tells content maps holds =
    let large : 8 ≤ (g.S.Shelf.meaning c.args.shelf).size c.args.units.now.srl = omega (arith, c.if-blocks-lt-LEAST_BLOCKS.false, c.size-blocks.ensures) in
    let old : Meaning = g.S.Shelf.meaning c.args.shelf in
    let mid : Meaning = g.S.Shelf.meaning c.create.new.shelf in
    let new : Meaning = g.S.Shelf.meaning c.load_in.new.shelf in
    let makes = c.in-Ok-create.ensures.makes large (omega arith) in
    let moves = c.in-Ok-create.ensures.moves in
    let placed = placed_same c.args.units.now old mid (moved_sizes _ _ _ _ moves) c.requires.placed in
    let kept = maps_moved _ Anything c.args.units.now maps old mid moves (λ b mine. c.requires.placed.maps_apart mine.there) holds.maps_are in
    new_stands c.args.units.now _ c.args.state.now _ _ Anything content maps _ c.in-Ok-load_in.maps _ old new c.requires.placed c.copy.ensures
    (new_log_rests _ _ _ _ _ mid new c.load_in.ensures.goes (down_as _ _ c.load_in.ensures.up makes.1) makes.0) c.in-Ok.ensures.none
    (anything_rests c.args.units.now _ old mid new moves c.load_in.ensures.goes) tells holds
    (marks_read c.args.units.now c.in-Ok-load_in.maps maps mid (g.met.S.Shelf.lawful c.create.new.shelf) placed (subst (λ (t : Bool). IsTrue t) (sym moves.tells) tells) c.in-Ok-load_in.ensures.loaded kept c.in-Ok-load_in.ensures.read)

pub returns-in-Ok-load_in-clause-moves : goal.returns-in-Ok-load_in-clause-moves
returns-in-Ok-load_in-clause-moves g c =
    anything_rests c.args.units.now _ (g.S.Shelf.meaning c.args.shelf) (g.S.Shelf.meaning c.create.new.shelf) (g.S.Shelf.meaning c.load_in.new.shelf) c.in-Ok-create.ensures.moves c.load_in.ensures.goes

pub returns-in-Err-load_in-clause-left : goal.returns-in-Err-load_in-clause-left
returns-in-Err-load_in-clause-left g c =
    anything_rests c.args.units.now _ (g.S.Shelf.meaning c.args.shelf) (g.S.Shelf.meaning c.create.new.shelf) (g.S.Shelf.meaning c.load_in.new.shelf) c.in-Ok-create.ensures.moves c.load_in.ensures.goes

pub returns-in-Ok-load_in-clause-up : goal.returns-in-Ok-load_in-clause-up
returns-in-Ok-load_in-clause-up g c =
    let large : 8 ≤ (g.S.Shelf.meaning c.args.shelf).size c.args.units.now.srl = omega (arith, c.if-blocks-lt-LEAST_BLOCKS.false, c.size-blocks.ensures) in
    down_as _ _ c.load_in.ensures.up (c.in-Ok-create.ensures.makes large (omega arith)).1

pub returns-in-Ok-load_in-clause-spends : goal.returns-in-Ok-load_in-clause-spends
returns-in-Ok-load_in-clause-spends g c = then_spends _ _ _ c.create.ensures.spends c.load_in.ensures.spends

pub returns-in-Err-load_in-clause-spent : goal.returns-in-Err-load_in-clause-spent
returns-in-Err-load_in-clause-spent g c = then_spends _ _ _ c.create.ensures.spends c.load_in.ensures.spends

pub returns-in-Err-load_in-clause-cause : goal.returns-in-Err-load_in-clause-cause
returns-in-Err-load_in-clause-cause g c = λ large.
    cause_from (g.S.Shelf.meaning c.args.shelf) (g.S.Shelf.meaning c.create.new.shelf) (g.S.Shelf.meaning c.load_in.new.shelf) c.in-Err-load_in.no c.in-Ok-create.ensures.moves.disk_faults c.in-Err-load_in.ensures.cause

pub invariant_of-result : goal.invariant_of-result
invariant_of-result g c =
    let large : 8 ≤ (g.S.Shelf.meaning c.args.shelf).size c.args.units.now.srl = omega (arith, c.if-blocks-lt-LEAST_BLOCKS.false, c.size-blocks.ensures) in
    let old : Meaning = g.S.Shelf.meaning c.args.shelf in
    let mid : Meaning = g.S.Shelf.meaning c.create.new.shelf in
    let new : Meaning = g.S.Shelf.meaning c.load_in.new.shelf in
    let makes = (c.in-Ok-create.ensures.makes large (omega arith)).0 in
    record {
      sound =
          new_sound c.args.units.now _ c.args.state.now _ _ Anything _ c.in-Ok-load_in.maps _ old new c.requires.placed c.copy.ensures makes.is (ring_lies c.args.units.now old c.requires.placed large)
          (loaded_rests c.args.units.now c.in-Ok-load_in.maps mid new c.load_in.ensures.goes c.in-Ok-load_in.ensures.loaded)
          (c.in-Ok.ensures.room ∙ (c.ring_blocks-room.ensures ∙ ap ring_of c.size-blocks.ensures)) c.in-Ok.ensures.none
          (anything_rests c.args.units.now _ old mid new c.in-Ok-create.ensures.moves c.load_in.ensures.goes);
    }
