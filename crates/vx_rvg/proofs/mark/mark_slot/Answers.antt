-- The group behind a change of marks.
use Rattle.std.proofs.Common.{◌≡◌}
use Rattle.vx_dcm.specs.Places.{IsPlaceAmong, slot_first, slot_last}
use Rattle.vx_rvg.specs.Views.{Core}
use Rattle.vx_rvg.specs.contracts.rvg_core.RvgCore.{the_view}
use Rattle.vx_rvg.proofs.MarkStands.{stays_up, told_blames, told_fails, told_halted, told_is, told_lies, told_moves, told_part, told_rests, told_sound}
use Rattle.vx_rvg.proofs.mark.mark_slot.Goals as goal

pub mark_all-requires-clause-lies : goal.mark_all-requires-clause-lies
mark_all-requires-clause-lies g c = told_lies (the_view c.core.inside) c.args.core.now c.core.view_is (g.S.Shelf.meaning c.args.shelf.now) c.requires.sound

pub returns-in-Ok-clause-marks : goal.returns-in-Ok-clause-marks
returns-in-Ok-clause-marks g c = (told_is (the_view c.core.inside) c.args.core.now c.core.view_is c.mark_all.new.self, stays_up _ _ c.requires.up c.in-Ok.ensures.unit)

pub returns-in-Err-clause-marks : goal.returns-in-Err-clause-marks
returns-in-Err-clause-marks g c = (told_halted (the_view c.core.inside) c.args.core.now c.core.view_is c.mark_all.new.self c.in-Err.no c.halt.new.self c.halt.ensures, c.in-Err.ensures.cause)

pub returns-in-Err-clause-part : goal.returns-in-Err-clause-part
returns-in-Err-clause-part g c =
    told_part (the_view c.core.inside) c.args.core.now c.core.view_is c.mark_all.new.self c.in-Err.no c.halt.new.self c.halt.ensures (λ k w q. k ≡ c.args.slot) c.args.on c.mark_all.ensures.part

pub returns-in-Ok-clause-sound : goal.returns-in-Ok-clause-sound
returns-in-Ok-clause-sound g c =
    told_sound (the_view c.core.inside) c.args.core.now c.core.view_is (g.S.Shelf.meaning c.args.shelf.now) c.requires.sound c.mark_all.new.self (g.S.Shelf.meaning c.mark_all.new.shelf)
    (λ (k : Core). IsPlaceAmong (slot_first k.maps c.args.slot) (slot_last k.maps c.args.slot)) c.args.on c.mark_all.ensures.place c.mark_all.ensures.sizes c.mark_all.ensures.moves

pub returns-in-Err-clause-sound : goal.returns-in-Err-clause-sound
returns-in-Err-clause-sound g c =
    told_fails (the_view c.core.inside) c.args.core.now c.core.view_is (g.S.Shelf.meaning c.args.shelf.now) c.requires.sound c.mark_all.new.self (g.S.Shelf.meaning c.mark_all.new.shelf)
    (λ (k : Core). IsPlaceAmong (slot_first k.maps c.args.slot) (slot_last k.maps c.args.slot)) c.args.on c.mark_all.ensures.place c.mark_all.ensures.sizes c.mark_all.ensures.moves c.in-Err.no c.halt.new.self c.halt.ensures

pub returns-in-Ok-clause-stands : goal.returns-in-Ok-clause-stands
returns-in-Ok-clause-stands g c =
    told_rests (the_view c.core.inside) c.args.core.now c.core.view_is (g.S.Shelf.meaning c.args.shelf.now) c.requires.sound c.mark_all.new.self (g.S.Shelf.meaning c.mark_all.new.shelf)
    (λ (k : Core). IsPlaceAmong (slot_first k.maps c.args.slot) (slot_last k.maps c.args.slot)) c.args.on c.mark_all.ensures.place c.mark_all.ensures.sizes c.mark_all.ensures.moves (stays_up _ _ c.requires.up c.in-Ok.ensures.unit) c.in-Ok.ensures.stands

pub returns-in-Ok-clause-moves : goal.returns-in-Ok-clause-moves
returns-in-Ok-clause-moves g c =
    told_moves (the_view c.core.inside) c.args.core.now c.core.view_is (g.S.Shelf.meaning c.args.shelf.now) c.requires.sound c.mark_all.new.self (g.S.Shelf.meaning c.mark_all.new.shelf)
    (λ (k : Core). IsPlaceAmong (slot_first k.maps c.args.slot) (slot_last k.maps c.args.slot)) c.args.on c.mark_all.ensures.place c.mark_all.ensures.sizes c.mark_all.ensures.moves

pub returns-in-Err-clause-moves : goal.returns-in-Err-clause-moves
returns-in-Err-clause-moves g c =
    told_moves (the_view c.core.inside) c.args.core.now c.core.view_is (g.S.Shelf.meaning c.args.shelf.now) c.requires.sound c.mark_all.new.self (g.S.Shelf.meaning c.mark_all.new.shelf)
    (λ (k : Core). IsPlaceAmong (slot_first k.maps c.args.slot) (slot_last k.maps c.args.slot)) c.args.on c.mark_all.ensures.place c.mark_all.ensures.sizes c.mark_all.ensures.moves

pub returns-in-Err-clause-blames : goal.returns-in-Err-clause-blames
returns-in-Err-clause-blames g c =
    told_blames (the_view c.core.inside) c.args.core.now c.core.view_is (g.S.Shelf.meaning c.args.shelf.now) c.requires.sound (g.S.Shelf.meaning c.args.shelf.now).disks c.in-Err.no c.in-Err.ensures.blames
