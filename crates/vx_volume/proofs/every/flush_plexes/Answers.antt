-- `flush_plexes`: clause ends; what stays true in its loop over `plex`.
use Rattle.std.proofs.Common.{◌+◌, sym, ◌∙◌, subst, arith}
use Rattle.vx_volume.specs.Steps.{FlushLoop}
use Rattle.vx_volume.proofs.EveryLemmas.{flush_failed, flush_ok, flush_pass}
use Rattle.vx_volume.proofs.Loops.{ends_none, ends_some}
use Rattle.vx_volume.proofs.PlaceLemmas.{active_few}
use Rattle.vx_volume.proofs.every.flush_plexes.Goals.{then-is_active+in-Ok, then-is_active+in-Err-Fault, else-is_active}
use Rattle.vx_volume.proofs.every.flush_plexes.Goals as goal

pub loop-plex-preserved : goal.loop-plex-preserved
loop-plex-preserved g c =
    elim c.if-is_active.branch [
      | then-is_active+in-Ok w ↦
          subst (λ s. FlushLoop c.args.config.now c.args.vol (c.loop-plex.plex + 1) c.if-is_active.failed c.if-is_active.done c.if-is_active.device (g.S.Shelf.meaning c.args.shelf.now) (g.S.Shelf.meaning s)) (sym w.shelf-is)
          (flush_ok _ _ _ _ _ _ _ _ _ _ _ c.loop-plex.invariant _ (sym c.is_active.ensures ∙ w.if-is_active.true) w.flush_plex.ensures.goes w.in-Ok.ensures.cause w.in-Ok.ensures.ok w.failed-is w.done-is w.device-is)
      | then-is_active+in-Err-Fault w ↦
          subst (λ s. FlushLoop c.args.config.now c.args.vol (c.loop-plex.plex + 1) c.if-is_active.failed c.if-is_active.done c.if-is_active.device (g.S.Shelf.meaning c.args.shelf.now) (g.S.Shelf.meaning s)) (sym w.shelf-is)
          (flush_failed _ _ _ _ _ _ _ _ _ _ _ c.loop-plex.invariant _ (sym c.is_active.ensures ∙ w.if-is_active.true) w.flush_plex.ensures.goes (omega (arith, c.loop-plex-test.true)) _ _ w.in-Err-Fault.field-0-is w.in-Err-Fault.ensures.cause w.failed-is w.done-is w.device-is)
      | else-is_active w ↦
          subst (λ s. FlushLoop c.args.config.now c.args.vol (c.loop-plex.plex + 1) c.if-is_active.failed c.if-is_active.done c.if-is_active.device (g.S.Shelf.meaning c.args.shelf.now) (g.S.Shelf.meaning s)) (sym w.shelf-is)
          (flush_pass _ _ _ _ _ _ _ _ _ _ _ c.loop-plex.invariant (sym c.is_active.ensures ∙ w.if-is_active.false) w.failed-is w.done-is w.device-is)
    ]

pub returns-then-done-clause-ends : goal.returns-then-done-clause-ends
returns-then-done-clause-ends g c = (ends_some c.args.config.now c.args.vol _ _ _ _ _ _ _ (active_few c.args.config.now c.requires.checked c.args.vol) (omega (arith, c.loop-plex-test.false)) c.loop-plex.invariant.loop c.if-done.true, c.loop-plex.invariant.loop.blames)

pub returns-else-done-clause-ends : goal.returns-else-done-clause-ends
returns-else-done-clause-ends g c = ends_none c.args.config.now c.args.vol _ _ _ _ _ _ _ (active_few c.args.config.now c.requires.checked c.args.vol) (omega (arith, c.loop-plex-test.false)) c.loop-plex.invariant.loop c.if-done.false c.requires.some
