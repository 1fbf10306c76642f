-- The group behind the emptying of its log.
use Rattle.std.proofs.Common.{ap, sym, subst}
use Rattle.vx_model.specs.declared.no.No.{No}
use Rattle.vx_disk.specs.Causes.{DeviceCause, Works}
use Rattle.vx_rvg.specs.Views.{Core, IsSound}
use Rattle.vx_rvg.proofs.Blaming.{blames_of}
use Rattle.vx_rvg.proofs.EmptyStands.{can_at, emptied_fails, emptied_moves, emptied_rests, emptied_sound}
use Rattle.vx_rvg.proofs.WriteLog.{no_cause}
use Rattle.vx_rvg.proofs.change.empty.Goals as goal

pub returns-in-Ok-clause-stands : goal.returns-in-Ok-clause-stands
returns-in-Ok-clause-stands g c =
    let can = can_at _ c.args.core.now c.core.view_is c.args.head c.requires.can in
    emptied_rests _ c.args.core.now c.core.view_is c.args.state.now c.args.head c.requires.all c.low-low.ensures.some (g.S.Shelf.meaning c.args.shelf.now) c.requires.sound (g.S.Shelf.meaning c.restart.new.shelf) c.in-Ok.ensures.goes
    c.restart.new.self (c.in-Ok.ensures.saves can.0 can.1 can.2).0 c.in-Ok.ensures.leads

pub returns-in-Ok-clause-moves : goal.returns-in-Ok-clause-moves
returns-in-Ok-clause-moves g c =
    emptied_moves _ c.args.core.now c.core.view_is c.args.state.now c.args.head c.requires.all c.low-low.ensures.some (g.S.Shelf.meaning c.args.shelf.now) c.requires.sound (g.S.Shelf.meaning c.restart.new.shelf) c.in-Ok.ensures.goes

pub returns-in-Err-clause-moves : goal.returns-in-Err-clause-moves
returns-in-Err-clause-moves g c =
    emptied_moves _ c.args.core.now c.core.view_is c.args.state.now c.args.head c.requires.all c.low-low.ensures.some (g.S.Shelf.meaning c.args.shelf.now) c.requires.sound (g.S.Shelf.meaning c.restart.new.shelf) c.in-Err.ensures.goes

pub returns-in-Err-clause-sound : goal.returns-in-Err-clause-sound
returns-in-Err-clause-sound g c =
    let can = can_at _ c.args.core.now c.core.view_is c.args.head c.requires.can in
    let saves = c.in-Err.ensures.saves can.0 can.1 can.2 in
    subst (λ (k : Core). IsSound k (g.S.Shelf.meaning c.restart.new.shelf)) (sym c.halt.ensures)
    (emptied_fails _ c.args.core.now c.core.view_is c.args.state.now c.args.head c.requires.all c.low-low.ensures.some (g.S.Shelf.meaning c.args.shelf.now) c.requires.sound (g.S.Shelf.meaning c.restart.new.shelf) c.in-Err.ensures.goes
    c.restart.new.self saves.0 c.refused-no.result
    (subst (λ (why : No). DeviceCause (g.S.Shelf.meaning c.args.shelf.now) (g.S.Shelf.meaning c.restart.new.shelf) why) (sym c.refused-no.ensures)
    (no_cause (g.S.Shelf.meaning c.args.shelf.now) (g.S.Shelf.meaning c.restart.new.shelf) c.in-Err.why saves.1)))

pub returns-in-Ok-clause-sound : goal.returns-in-Ok-clause-sound
returns-in-Ok-clause-sound g c =
    let can = can_at _ c.args.core.now c.core.view_is c.args.head c.requires.can in
    emptied_sound _ c.args.core.now c.core.view_is c.args.state.now c.args.head c.requires.all c.low-low.ensures.some (g.S.Shelf.meaning c.args.shelf.now) c.requires.sound (g.S.Shelf.meaning c.restart.new.shelf) c.in-Ok.ensures.goes
    c.restart.new.self (c.in-Ok.ensures.saves can.0 can.1 can.2).0

pub returns-in-Err-clause-blames : goal.returns-in-Err-clause-blames
returns-in-Err-clause-blames g c =
    blames_of (g.S.Shelf.meaning c.args.shelf.now).disks _ _ c.in-Err.why c.refused-no.result (ap (λ (k : Core). k.log.unit) c.core.view_is) c.refused-no.ensures c.in-Err.ensures.blames

pub returns-in-Ok-clause-works : goal.returns-in-Ok-clause-works
returns-in-Ok-clause-works g c = subst (λ (k : Core). Works (g.S.Shelf.meaning c.args.shelf.now).disks k.log.unit) c.core.view_is c.in-Ok.ensures.works

pub returns-in-Err-clause-stands : goal.returns-in-Err-clause-stands
returns-in-Err-clause-stands g c = tt

pub returns-in-Err-clause-calls : goal.returns-in-Err-clause-calls
returns-in-Err-clause-calls g c = tt

pub returns-in-Ok-clause-blames : goal.returns-in-Ok-clause-blames
returns-in-Ok-clause-blames g c = tt

pub returns-in-Err-clause-works : goal.returns-in-Err-clause-works
returns-in-Err-clause-works g c = tt
