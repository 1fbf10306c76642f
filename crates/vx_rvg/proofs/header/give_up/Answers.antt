-- The group behind a reclaim.
use Rattle.std.proofs.Common.{◌≤◌, arith, subst, sym, ap}
use Rattle.vx_rvg.specs.contracts.rvg_core.RvgCore.{the_view}
use Rattle.vx_rvg.specs.Views.{Core, IsSound}
use Rattle.vx_rvg.proofs.Blaming.{blames_of}
use Rattle.vx_rvg.proofs.SaveCalls.{given_up_moves, given_up_rests, given_up_sound, halted_up_sound, reclaim_cases, reclaim_done}
use Rattle.vx_rvg.proofs.header.give_up.Goals as goal

pub returns-in-Err-clause-sound : goal.returns-in-Err-clause-sound
returns-in-Err-clause-sound g c =
    let low : c.core.inside.srl.header.low ≤ c.args.to = omega (arith, c.if-to-low.false, c.low.ensures.is) in
    subst (λ (k : Core). IsSound k (g.S.Shelf.meaning c.reclaim.new.shelf)) (sym c.halt.ensures)
    (halted_up_sound (the_view c.core.inside) c.args.core.now c.core.view_is c.args.to low c.requires.applied c.low.ensures.some (g.S.Shelf.meaning c.args.shelf.now) (g.S.Shelf.meaning c.reclaim.new.shelf) c.requires.sound
    c.reclaim.ensures.goes c.reclaim.new.self c.refused-no.result
    (reclaim_cases c.core.inside.srl c.reclaim.new.self c.args.to (g.S.Shelf.meaning c.args.shelf.now) (g.S.Shelf.meaning c.reclaim.new.shelf) c.reclaim.result c.args.shelf.now c.reclaim.new.shelf low c.reclaim.ensures.limit c.reclaim.ensures.saves))

pub returns-in-Err-clause-moves : goal.returns-in-Err-clause-moves
returns-in-Err-clause-moves g c =
    let low : c.core.inside.srl.header.low ≤ c.args.to = omega (arith, c.if-to-low.false, c.low.ensures.is) in
    given_up_moves (the_view c.core.inside) c.args.core.now c.core.view_is c.args.to low c.requires.applied c.low.ensures.some (g.S.Shelf.meaning c.args.shelf.now) (g.S.Shelf.meaning c.reclaim.new.shelf) c.requires.sound c.reclaim.ensures.goes

pub returns-clause-sound : goal.returns-clause-sound
returns-clause-sound g c =
    let low : c.core.inside.srl.header.low ≤ c.args.to = omega (arith, c.if-to-low.false, c.low.ensures.is) in
    given_up_sound (the_view c.core.inside) c.args.core.now c.core.view_is c.args.to low c.requires.applied c.low.ensures.some (g.S.Shelf.meaning c.args.shelf.now) (g.S.Shelf.meaning c.reclaim.new.shelf) c.requires.sound
    c.reclaim.ensures.goes c.reclaim.new.self
    (reclaim_cases c.core.inside.srl c.reclaim.new.self c.args.to (g.S.Shelf.meaning c.args.shelf.now) (g.S.Shelf.meaning c.reclaim.new.shelf) c.reclaim.result c.args.shelf.now c.reclaim.new.shelf low c.reclaim.ensures.limit c.reclaim.ensures.saves)

pub returns-clause-stands : goal.returns-clause-stands
returns-clause-stands g c =
    let low : c.core.inside.srl.header.low ≤ c.args.to = omega (arith, c.if-to-low.false, c.low.ensures.is) in
    given_up_rests (the_view c.core.inside) c.args.core.now c.core.view_is c.args.to low c.requires.applied c.low.ensures.some (g.S.Shelf.meaning c.args.shelf.now) (g.S.Shelf.meaning c.reclaim.new.shelf) c.requires.sound
    c.reclaim.ensures.goes c.reclaim.new.self (c.in_default-reclaim.ensures.leads low)
    (reclaim_done c.core.inside.srl c.reclaim.new.self c.args.to (g.S.Shelf.meaning c.args.shelf.now) (g.S.Shelf.meaning c.reclaim.new.shelf) c.reclaim.result c.args.shelf.now c.reclaim.new.shelf c.in_default-reclaim.field-0 c.in_default-reclaim.is low c.reclaim.ensures.limit c.reclaim.ensures.saves)

pub returns-clause-moves : goal.returns-clause-moves
returns-clause-moves g c =
    let low : c.core.inside.srl.header.low ≤ c.args.to = omega (arith, c.if-to-low.false, c.low.ensures.is) in
    given_up_moves (the_view c.core.inside) c.args.core.now c.core.view_is c.args.to low c.requires.applied c.low.ensures.some (g.S.Shelf.meaning c.args.shelf.now) (g.S.Shelf.meaning c.reclaim.new.shelf) c.requires.sound c.reclaim.ensures.goes

pub returns-in-Err-clause-blames : goal.returns-in-Err-clause-blames
returns-in-Err-clause-blames g c =
    blames_of (g.S.Shelf.meaning c.args.shelf.now).disks _ _ c.in-Err.why c.refused-no.result (ap (λ (k : Core). k.log.unit) c.core.view_is) c.refused-no.ensures c.in-Err.ensures.blames

pub returns-in-Err-clause-stands : goal.returns-in-Err-clause-stands
returns-in-Err-clause-stands g c = tt

pub returns-in-Err-clause-calls : goal.returns-in-Err-clause-calls
returns-in-Err-clause-calls g c = tt

pub returns-clause-blames : goal.returns-clause-blames
returns-clause-blames g c = tt
