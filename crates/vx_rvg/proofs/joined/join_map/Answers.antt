-- The group behind the joining of marks.
use Rattle.std.proofs.Common.{true}
use Rattle.vx_dcm.specs.Joined.{IsInBytes, IsPlaceInBytes}
use Rattle.vx_rvg.specs.Views.{Core}
use Rattle.vx_rvg.specs.contracts.rvg_core.RvgCore.{the_view}
use Rattle.vx_rvg.proofs.MarkStands.{stays_up, told_blames, told_fails, told_halted, told_is, told_lies, told_moves, told_part, told_rests, told_sound}
use Rattle.vx_rvg.proofs.joined.join_map.Goals as goal

pub join-requires-clause-lies : goal.join-requires-clause-lies
join-requires-clause-lies g c = told_lies (the_view c.core.inside) c.args.core.now c.core.view_is (g.S.Shelf.meaning c.args.shelf.now) c.requires.sound

pub returns-in-Ok-clause-marks : goal.returns-in-Ok-clause-marks
returns-in-Ok-clause-marks g c = (told_is (the_view c.core.inside) c.args.core.now c.core.view_is c.join.new.self, stays_up _ _ c.requires.up c.in-Ok.ensures.up)

pub returns-in-Err-clause-marks : goal.returns-in-Err-clause-marks
returns-in-Err-clause-marks g c = (told_halted (the_view c.core.inside) c.args.core.now c.core.view_is c.join.new.self c.in-Err.no c.halt.new.self c.halt.ensures, c.in-Err.ensures.cause)

pub returns-in-Err-clause-part : goal.returns-in-Err-clause-part
returns-in-Err-clause-part g c =
    told_part (the_view c.core.inside) c.args.core.now c.core.view_is c.join.new.self c.in-Err.no c.halt.new.self c.halt.ensures (λ k w q. IsInBytes c.args.slot c.args.vol c.args.bytes.now k w q) true c.join.ensures.part

pub returns-in-Ok-clause-sound : goal.returns-in-Ok-clause-sound
returns-in-Ok-clause-sound g c =
    told_sound (the_view c.core.inside) c.args.core.now c.core.view_is (g.S.Shelf.meaning c.args.shelf.now) c.requires.sound c.join.new.self (g.S.Shelf.meaning c.join.new.shelf)
    (λ (k : Core). IsPlaceInBytes k.maps c.args.slot c.args.vol c.args.bytes.now) true c.join.ensures.place c.join.ensures.sizes c.join.ensures.moves

pub returns-in-Err-clause-sound : goal.returns-in-Err-clause-sound
returns-in-Err-clause-sound g c =
    told_fails (the_view c.core.inside) c.args.core.now c.core.view_is (g.S.Shelf.meaning c.args.shelf.now) c.requires.sound c.join.new.self (g.S.Shelf.meaning c.join.new.shelf)
    (λ (k : Core). IsPlaceInBytes k.maps c.args.slot c.args.vol c.args.bytes.now) true c.join.ensures.place c.join.ensures.sizes c.join.ensures.moves c.in-Err.no c.halt.new.self c.halt.ensures

pub returns-in-Ok-clause-stands : goal.returns-in-Ok-clause-stands
returns-in-Ok-clause-stands g c =
    told_rests (the_view c.core.inside) c.args.core.now c.core.view_is (g.S.Shelf.meaning c.args.shelf.now) c.requires.sound c.join.new.self (g.S.Shelf.meaning c.join.new.shelf)
    (λ (k : Core). IsPlaceInBytes k.maps c.args.slot c.args.vol c.args.bytes.now) true c.join.ensures.place c.join.ensures.sizes c.join.ensures.moves (stays_up _ _ c.requires.up c.in-Ok.ensures.up) c.in-Ok.ensures.stands

pub returns-in-Ok-clause-moves : goal.returns-in-Ok-clause-moves
returns-in-Ok-clause-moves g c =
    told_moves (the_view c.core.inside) c.args.core.now c.core.view_is (g.S.Shelf.meaning c.args.shelf.now) c.requires.sound c.join.new.self (g.S.Shelf.meaning c.join.new.shelf)
    (λ (k : Core). IsPlaceInBytes k.maps c.args.slot c.args.vol c.args.bytes.now) true c.join.ensures.place c.join.ensures.sizes c.join.ensures.moves

pub returns-in-Err-clause-moves : goal.returns-in-Err-clause-moves
returns-in-Err-clause-moves g c =
    told_moves (the_view c.core.inside) c.args.core.now c.core.view_is (g.S.Shelf.meaning c.args.shelf.now) c.requires.sound c.join.new.self (g.S.Shelf.meaning c.join.new.shelf)
    (λ (k : Core). IsPlaceInBytes k.maps c.args.slot c.args.vol c.args.bytes.now) true c.join.ensures.place c.join.ensures.sizes c.join.ensures.moves

pub returns-in-Err-clause-blames : goal.returns-in-Err-clause-blames
returns-in-Err-clause-blames g c =
    told_blames (the_view c.core.inside) c.args.core.now c.core.view_is (g.S.Shelf.meaning c.args.shelf.now) c.requires.sound (g.S.Shelf.meaning c.args.shelf.now).disks c.in-Err.no c.in-Err.ensures.blames

pub returns-in-Err-clause-marked : goal.returns-in-Err-clause-marked
returns-in-Err-clause-marked g c = tt

pub returns-in-Err-clause-stands : goal.returns-in-Err-clause-stands
returns-in-Err-clause-stands g c = tt

pub returns-in-Ok-clause-blames : goal.returns-in-Ok-clause-blames
returns-in-Ok-clause-blames g c = tt
