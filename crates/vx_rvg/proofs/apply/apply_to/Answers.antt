-- `apply_to`: clauses sound, stands, moves, blames and works; what `drop_oldest` asks.
use Rattle.std.proofs.Common.{sym, subst, arith}
use Rattle.vx_model.specs.declared.no.No.{No}
use Rattle.vx_disk.specs.Causes.{DeviceCause}
use Rattle.vx_rvg.specs.Groups.{BlamesVolumes}
use Rattle.vx_rvg.specs.Views.{Core, IsSound}
use Rattle.vx_rvg.proofs.ApplyStands.{apply_failed, apply_moves, few_wait, new_rests, new_sound, still_running}
use Rattle.vx_rvg.proofs.apply.apply_to.Goals as goal

pub drop_oldest-requires : goal.drop_oldest-requires
drop_oldest-requires g c = record {
  held =
      few_wait _ c.args.core.now c.core.view_is _ _ c.requires.sound c.applied_to-to.result c.in-Ok.blocks (omega (arith, c.applied_to-to.ensures)) (omega (arith, c.applied_to-to.ensures, c.requires.sound.known))
      c.bring.ensures.moves c.in-Ok.ensures.brings;
}

pub returns-in-Ok-clause-sound : goal.returns-in-Ok-clause-sound
returns-in-Ok-clause-sound g c =
    new_sound _ c.args.core.now c.core.view_is _ _ c.requires.sound c.applied_to-to.result c.in-Ok.blocks (omega (arith, c.applied_to-to.ensures)) (omega (arith, c.applied_to-to.ensures, c.requires.sound.known))
    c.bring.ensures.moves c.in-Ok.ensures.brings c.drop_oldest.new.self c.drop_oldest.ensures.entries c.drop_oldest.ensures.capacity

pub returns-in-Ok-clause-stands : goal.returns-in-Ok-clause-stands
returns-in-Ok-clause-stands g c =
    new_rests _ c.args.core.now c.core.view_is _ _ c.requires.sound c.applied_to-to.result c.in-Ok.blocks (omega (arith, c.applied_to-to.ensures)) (omega (arith, c.applied_to-to.ensures, c.requires.sound.known))
    c.bring.ensures.moves c.in-Ok.ensures.brings c.drop_oldest.new.self c.drop_oldest.ensures.entries c.drop_oldest.ensures.capacity
    (c.in-Ok.ensures.stopped (still_running c.is_down.result _ c.is_down.ensures c.if-is_down.false))

pub returns-in-Ok-clause-moves : goal.returns-in-Ok-clause-moves
returns-in-Ok-clause-moves g c = apply_moves c.args.core.now _ _ c.requires.sound c.bring.ensures.moves

pub returns-in-Err-clause-sound : goal.returns-in-Err-clause-sound
returns-in-Err-clause-sound g c =
    subst (λ (k : Core). IsSound k (g.S.Shelf.meaning c.bring.new.shelf)) (sym c.halt.ensures)
    (apply_failed c.args.core.now _ _ c.requires.sound c.bring.ensures.moves c.refusal-no.result
    (subst (λ (why : No). DeviceCause (g.S.Shelf.meaning c.args.shelf.now) (g.S.Shelf.meaning c.bring.new.shelf) why) (sym c.refusal-no.ensures) c.in-Err.ensures.stopped))

pub returns-in-Err-clause-moves : goal.returns-in-Err-clause-moves
returns-in-Err-clause-moves g c = apply_moves c.args.core.now _ _ c.requires.sound c.bring.ensures.moves

pub returns-in-Ok-clause-works : goal.returns-in-Ok-clause-works
returns-in-Ok-clause-works g c = λ less v low. c.in-Ok.ensures.works v low

pub returns-in-Err-clause-blames : goal.returns-in-Err-clause-blames
returns-in-Err-clause-blames g c = subst (λ (why : No). BlamesVolumes (g.S.Shelf.meaning c.args.shelf.now).disks c.args.core.now.units.vols why) (sym c.refusal-no.ensures) c.in-Err.ensures.blames

pub returns-in-Err-clause-stands : goal.returns-in-Err-clause-stands
returns-in-Err-clause-stands g c = tt

pub returns-in-Err-clause-works : goal.returns-in-Err-clause-works
returns-in-Err-clause-works g c = tt

pub returns-in-Ok-clause-blames : goal.returns-in-Ok-clause-blames
returns-in-Ok-clause-blames g c = tt
