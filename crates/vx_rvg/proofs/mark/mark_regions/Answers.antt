-- The group behind a change of marks.
use Rattle.vx_dcm.specs.Places.{IsPlaceAmong, IsOfRun, region_place}
use Rattle.vx_rvg.specs.Views.{Core}
use Rattle.vx_rvg.specs.contracts.rvg_core.RvgCore.{the_view}
use Rattle.vx_rvg.proofs.MarkStands.{stays_up, told_bits, told_blames, told_fails, told_halted, told_is, told_lies, told_moves, told_part, told_place, told_rests, told_sizes, told_sound}
use Rattle.vx_rvg.proofs.mark.mark_regions.Goals as goal

pub mark_run-requires-clause-lies : goal.mark_run-requires-clause-lies
mark_run-requires-clause-lies g c = told_lies (the_view c.core.inside) c.args.core.now c.core.view_is (g.S.Shelf.meaning c.args.shelf.now) c.requires.sound

pub returns-in-Ok-clause-marks : goal.returns-in-Ok-clause-marks
returns-in-Ok-clause-marks g c = (told_is (the_view c.core.inside) c.args.core.now c.core.view_is c.mark_run.new.self, stays_up _ _ c.requires.up c.in-Ok.ensures.unit)

pub returns-in-Err-clause-marks : goal.returns-in-Err-clause-marks
returns-in-Err-clause-marks g c = (told_halted (the_view c.core.inside) c.args.core.now c.core.view_is c.mark_run.new.self c.in-Err.no c.halt.new.self c.halt.ensures, c.in-Err.ensures.cause)

pub returns-in-Err-clause-part : goal.returns-in-Err-clause-part
returns-in-Err-clause-part g c =
    told_part (the_view c.core.inside) c.args.core.now c.core.view_is c.mark_run.new.self c.in-Err.no c.halt.new.self c.halt.ensures (λ k w q. IsOfRun c.args.slot c.args.vol c.args.first c.args.last k w q) c.args.on c.mark_run.ensures.part

pub returns-in-Ok-clause-sound : goal.returns-in-Ok-clause-sound
returns-in-Ok-clause-sound g c =
    told_sound (the_view c.core.inside) c.args.core.now c.core.view_is (g.S.Shelf.meaning c.args.shelf.now) c.requires.sound c.mark_run.new.self (g.S.Shelf.meaning c.mark_run.new.shelf)
    (λ (k : Core). IsPlaceAmong (region_place k.maps c.args.slot c.args.vol c.args.first) (region_place k.maps c.args.slot c.args.vol c.args.last)) c.args.on c.mark_run.ensures.place c.mark_run.ensures.sizes c.mark_run.ensures.moves

pub returns-in-Err-clause-sound : goal.returns-in-Err-clause-sound
returns-in-Err-clause-sound g c =
    told_fails (the_view c.core.inside) c.args.core.now c.core.view_is (g.S.Shelf.meaning c.args.shelf.now) c.requires.sound c.mark_run.new.self (g.S.Shelf.meaning c.mark_run.new.shelf)
    (λ (k : Core). IsPlaceAmong (region_place k.maps c.args.slot c.args.vol c.args.first) (region_place k.maps c.args.slot c.args.vol c.args.last)) c.args.on c.mark_run.ensures.place c.mark_run.ensures.sizes c.mark_run.ensures.moves c.in-Err.no c.halt.new.self c.halt.ensures

pub returns-in-Ok-clause-stands : goal.returns-in-Ok-clause-stands
returns-in-Ok-clause-stands g c =
    told_rests (the_view c.core.inside) c.args.core.now c.core.view_is (g.S.Shelf.meaning c.args.shelf.now) c.requires.sound c.mark_run.new.self (g.S.Shelf.meaning c.mark_run.new.shelf)
    (λ (k : Core). IsPlaceAmong (region_place k.maps c.args.slot c.args.vol c.args.first) (region_place k.maps c.args.slot c.args.vol c.args.last)) c.args.on c.mark_run.ensures.place c.mark_run.ensures.sizes c.mark_run.ensures.moves (stays_up _ _ c.requires.up c.in-Ok.ensures.unit) c.in-Ok.ensures.stands

pub returns-in-Ok-clause-moves : goal.returns-in-Ok-clause-moves
returns-in-Ok-clause-moves g c =
    told_moves (the_view c.core.inside) c.args.core.now c.core.view_is (g.S.Shelf.meaning c.args.shelf.now) c.requires.sound c.mark_run.new.self (g.S.Shelf.meaning c.mark_run.new.shelf)
    (λ (k : Core). IsPlaceAmong (region_place k.maps c.args.slot c.args.vol c.args.first) (region_place k.maps c.args.slot c.args.vol c.args.last)) c.args.on c.mark_run.ensures.place c.mark_run.ensures.sizes c.mark_run.ensures.moves

pub returns-in-Err-clause-moves : goal.returns-in-Err-clause-moves
returns-in-Err-clause-moves g c =
    told_moves (the_view c.core.inside) c.args.core.now c.core.view_is (g.S.Shelf.meaning c.args.shelf.now) c.requires.sound c.mark_run.new.self (g.S.Shelf.meaning c.mark_run.new.shelf)
    (λ (k : Core). IsPlaceAmong (region_place k.maps c.args.slot c.args.vol c.args.first) (region_place k.maps c.args.slot c.args.vol c.args.last)) c.args.on c.mark_run.ensures.place c.mark_run.ensures.sizes c.mark_run.ensures.moves

pub returns-in-Err-clause-blames : goal.returns-in-Err-clause-blames
returns-in-Err-clause-blames g c =
    told_blames (the_view c.core.inside) c.args.core.now c.core.view_is (g.S.Shelf.meaning c.args.shelf.now) c.requires.sound (g.S.Shelf.meaning c.args.shelf.now).disks c.in-Err.no c.in-Err.ensures.blames

pub returns-in-Err-clause-bits : goal.returns-in-Err-clause-bits
returns-in-Err-clause-bits g c =
    told_bits (the_view c.core.inside) c.args.core.now c.core.view_is c.mark_run.new.self c.in-Err.no c.halt.new.self c.halt.ensures
    (λ (k : Core). IsPlaceAmong (region_place k.maps c.args.slot c.args.vol c.args.first) (region_place k.maps c.args.slot c.args.vol c.args.last)) c.args.on c.mark_run.ensures.bits

pub returns-in-Err-clause-place : goal.returns-in-Err-clause-place
returns-in-Err-clause-place g c = told_place (the_view c.core.inside) c.args.core.now c.core.view_is c.mark_run.new.self c.in-Err.no c.halt.new.self c.halt.ensures c.mark_run.ensures.place

pub returns-in-Err-clause-sizes : goal.returns-in-Err-clause-sizes
returns-in-Err-clause-sizes g c = told_sizes (the_view c.core.inside) c.args.core.now c.core.view_is c.mark_run.new.self c.in-Err.no c.halt.new.self c.halt.ensures c.mark_run.ensures.sizes

pub returns-in-Err-clause-marked : goal.returns-in-Err-clause-marked
returns-in-Err-clause-marked g c = tt

pub returns-in-Err-clause-stands : goal.returns-in-Err-clause-stands
returns-in-Err-clause-stands g c = tt

pub returns-in-Ok-clause-blames : goal.returns-in-Ok-clause-blames
returns-in-Ok-clause-blames g c = tt
