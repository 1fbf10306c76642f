-- The group behind a change of marks.
use Rattle.std.proofs.Common.{refl, true}
use Rattle.vx_dcm.specs.Places.{IsOfSlots, IsPlaceOfSlots}
use Rattle.vx_rvg.specs.Views.{Core}
use Rattle.vx_rvg.specs.contracts.rvg_core.RvgCore.{the_view}
use Rattle.vx_rvg.proofs.MarkStands.{halted_log, staged_as, stays_up, told_bits, told_blames, told_fails, told_halted, told_is, told_lies, told_part, told_place, told_sizes, told_sound, told_staged_moves, told_staged_rests}
use Rattle.vx_rvg.proofs.mark.mark_named.Goals as goal

pub mark_slots-requires-clause-lies : goal.mark_slots-requires-clause-lies
mark_slots-requires-clause-lies g c = told_lies (the_view c.core.inside) c.args.core.now c.core.view_is (g.S.Shelf.meaning c.args.shelf.now) c.requires.sound

pub returns-in-Ok-clause-marks : goal.returns-in-Ok-clause-marks
returns-in-Ok-clause-marks g c = (told_is (the_view c.core.inside) c.args.core.now c.core.view_is c.mark_slots.new.self, stays_up _ _ c.requires.up c.in-Ok.ensures.up)

pub returns-in-Err-clause-marks : goal.returns-in-Err-clause-marks
returns-in-Err-clause-marks g c = (told_halted (the_view c.core.inside) c.args.core.now c.core.view_is c.mark_slots.new.self c.in-Err.no c.halt.new.self c.halt.ensures, c.in-Err.ensures.cause)

pub returns-in-Err-clause-part : goal.returns-in-Err-clause-part
returns-in-Err-clause-part g c =
    told_part (the_view c.core.inside) c.args.core.now c.core.view_is c.mark_slots.new.self c.in-Err.no c.halt.new.self c.halt.ensures (λ k w q. IsOfSlots c.args.marks c.args.vol c.args.first c.args.last k w q) true c.mark_slots.ensures.part

pub returns-in-Ok-clause-sound : goal.returns-in-Ok-clause-sound
returns-in-Ok-clause-sound g c =
    staged_as (the_view c.core.inside) c.args.core.now c.core.view_is (record (the_view c.core.inside) { maps = c.mark_slots.new.self }) (g.S.Shelf.meaning c.mark_slots.new.shelf) refl
    (told_sound (the_view c.core.inside) c.args.core.now c.core.view_is (g.S.Shelf.meaning c.args.shelf.now) c.requires.sound c.mark_slots.new.self (g.S.Shelf.meaning c.mark_slots.new.shelf)
    (λ (k : Core). IsPlaceOfSlots k.maps c.args.marks c.args.vol c.args.first c.args.last) true c.mark_slots.ensures.place c.mark_slots.ensures.sizes c.mark_slots.ensures.moves)

pub returns-in-Err-clause-sound : goal.returns-in-Err-clause-sound
returns-in-Err-clause-sound g c =
    staged_as (the_view c.core.inside) c.args.core.now c.core.view_is c.halt.new.self (g.S.Shelf.meaning c.mark_slots.new.shelf)
    (halted_log c.in-Err.no (record (the_view c.core.inside) { maps = c.mark_slots.new.self }) c.halt.new.self c.halt.ensures)
    (told_fails (the_view c.core.inside) c.args.core.now c.core.view_is (g.S.Shelf.meaning c.args.shelf.now) c.requires.sound c.mark_slots.new.self (g.S.Shelf.meaning c.mark_slots.new.shelf)
    (λ (k : Core). IsPlaceOfSlots k.maps c.args.marks c.args.vol c.args.first c.args.last) true c.mark_slots.ensures.place c.mark_slots.ensures.sizes c.mark_slots.ensures.moves c.in-Err.no c.halt.new.self c.halt.ensures)

pub returns-in-Ok-clause-stands : goal.returns-in-Ok-clause-stands
returns-in-Ok-clause-stands g c =
    told_staged_rests (the_view c.core.inside) c.args.core.now c.core.view_is (g.S.Shelf.meaning c.args.shelf.now) c.requires.sound c.mark_slots.new.self (g.S.Shelf.meaning c.mark_slots.new.shelf)
    (λ (k : Core). IsPlaceOfSlots k.maps c.args.marks c.args.vol c.args.first c.args.last) true c.mark_slots.ensures.place c.mark_slots.ensures.sizes c.mark_slots.ensures.moves (stays_up _ _ c.requires.up c.in-Ok.ensures.up) c.in-Ok.ensures.stands

pub returns-in-Ok-clause-moves : goal.returns-in-Ok-clause-moves
returns-in-Ok-clause-moves g c =
    told_staged_moves (the_view c.core.inside) c.args.core.now c.core.view_is (g.S.Shelf.meaning c.args.shelf.now) c.requires.sound c.mark_slots.new.self (g.S.Shelf.meaning c.mark_slots.new.shelf)
    (λ (k : Core). IsPlaceOfSlots k.maps c.args.marks c.args.vol c.args.first c.args.last) true c.mark_slots.ensures.place c.mark_slots.ensures.sizes c.mark_slots.ensures.moves

pub returns-in-Err-clause-moves : goal.returns-in-Err-clause-moves
returns-in-Err-clause-moves g c =
    told_staged_moves (the_view c.core.inside) c.args.core.now c.core.view_is (g.S.Shelf.meaning c.args.shelf.now) c.requires.sound c.mark_slots.new.self (g.S.Shelf.meaning c.mark_slots.new.shelf)
    (λ (k : Core). IsPlaceOfSlots k.maps c.args.marks c.args.vol c.args.first c.args.last) true c.mark_slots.ensures.place c.mark_slots.ensures.sizes c.mark_slots.ensures.moves

pub returns-in-Err-clause-blames : goal.returns-in-Err-clause-blames
returns-in-Err-clause-blames g c =
    told_blames (the_view c.core.inside) c.args.core.now c.core.view_is (g.S.Shelf.meaning c.args.shelf.now) c.requires.sound (g.S.Shelf.meaning c.args.shelf.now).disks c.in-Err.no c.in-Err.ensures.blames

pub returns-in-Err-clause-bits : goal.returns-in-Err-clause-bits
returns-in-Err-clause-bits g c =
    told_bits (the_view c.core.inside) c.args.core.now c.core.view_is c.mark_slots.new.self c.in-Err.no c.halt.new.self c.halt.ensures (λ (k : Core). IsPlaceOfSlots k.maps c.args.marks c.args.vol c.args.first c.args.last) true c.mark_slots.ensures.bits

pub returns-in-Err-clause-place : goal.returns-in-Err-clause-place
returns-in-Err-clause-place g c = told_place (the_view c.core.inside) c.args.core.now c.core.view_is c.mark_slots.new.self c.in-Err.no c.halt.new.self c.halt.ensures c.mark_slots.ensures.place

pub returns-in-Err-clause-sizes : goal.returns-in-Err-clause-sizes
returns-in-Err-clause-sizes g c = told_sizes (the_view c.core.inside) c.args.core.now c.core.view_is c.mark_slots.new.self c.in-Err.no c.halt.new.self c.halt.ensures c.mark_slots.ensures.sizes

pub returns-in-Err-clause-marked : goal.returns-in-Err-clause-marked
returns-in-Err-clause-marked g c = tt

pub returns-in-Err-clause-stands : goal.returns-in-Err-clause-stands
returns-in-Err-clause-stands g c = tt

pub returns-in-Ok-clause-blames : goal.returns-in-Ok-clause-blames
returns-in-Ok-clause-blames g c = tt
