-- `write_plexes`: clauses goes and ends; what stays true in its loop over `plex`.
use Rattle.std.proofs.Common.{◌+◌, ◌/◌, length, sym, ◌∙◌, subst, arith}
use Rattle.vx_volume.specs.Steps.{WriteLoop}
use Rattle.vx_volume.proofs.EveryLemmas.{write_failed_by, write_goes, write_ok, write_pass}
use Rattle.vx_volume.proofs.Loops.{ends_none, ends_some}
use Rattle.vx_volume.proofs.every.write_plexes.Goals.{then-is_active+in-Ok, then-is_active+in-Err-Fault, else-is_active}
use Rattle.vx_volume.proofs.every.write_plexes.Goals as goal

pub returns-in-Err-Down-clause-goes : goal.returns-in-Err-Down-clause-goes
returns-in-Err-Down-clause-goes g c = write_goes _ _ _ _ _ _ c.loop-plex.failed c.loop-plex.failed c.loop-plex.done c.loop-plex.done c.loop-plex.device c.loop-plex.device _ _ c.requires.fits c.loop-plex.invariant _ (sym c.is_active.ensures ∙ c.if-is_active.true) c.write_plex.ensures.goes

pub loop-plex-preserved : goal.loop-plex-preserved
loop-plex-preserved g c =
    elim c.if-is_active.branch [
      | then-is_active+in-Ok w ↦
          subst (λ s. WriteLoop c.args.config.now c.args.vol c.args.block (length c.args.bytes.now / 512) c.args.bytes.now (c.loop-plex.plex + 1) c.if-is_active.failed c.if-is_active.done c.if-is_active.device (g.S.Shelf.meaning c.args.shelf.now) (g.S.Shelf.meaning s)) (sym w.shelf-is)
          (write_ok _ _ _ _ _ _ _ _ _ _ _ _ _ _ c.requires.fits c.loop-plex.invariant _ (sym c.is_active.ensures ∙ w.if-is_active.true) w.write_plex.ensures.goes w.in-Ok.ensures.cause w.in-Ok.ensures.ok w.failed-is w.done-is w.device-is)
      | then-is_active+in-Err-Fault w ↦
          subst (λ s. WriteLoop c.args.config.now c.args.vol c.args.block (length c.args.bytes.now / 512) c.args.bytes.now (c.loop-plex.plex + 1) c.if-is_active.failed c.if-is_active.done c.if-is_active.device (g.S.Shelf.meaning c.args.shelf.now) (g.S.Shelf.meaning s)) (sym w.shelf-is)
          (write_failed_by _ _ _ _ _ _ _ _ _ _ _ _ _ _ c.requires.fits c.loop-plex.invariant _ (sym c.is_active.ensures ∙ w.if-is_active.true) w.write_plex.ensures.goes (omega (arith, c.loop-plex-test.true)) _ _ w.in-Err-Fault.field-0-is w.in-Err-Fault.ensures.cause w.failed-is w.done-is w.device-is)
      | else-is_active w ↦
          subst (λ s. WriteLoop c.args.config.now c.args.vol c.args.block (length c.args.bytes.now / 512) c.args.bytes.now (c.loop-plex.plex + 1) c.if-is_active.failed c.if-is_active.done c.if-is_active.device (g.S.Shelf.meaning c.args.shelf.now) (g.S.Shelf.meaning s)) (sym w.shelf-is)
          (write_pass _ _ _ _ _ _ _ _ _ _ _ _ _ _ c.requires.fits c.loop-plex.invariant (sym c.is_active.ensures ∙ w.if-is_active.false) w.failed-is w.done-is w.device-is)
    ]

pub returns-then-done-clause-ends : goal.returns-then-done-clause-ends
returns-then-done-clause-ends g c = (ends_some c.args.config.now c.args.vol _ _ _ _ _ _ _ c.requires.fits.few (omega (arith, c.loop-plex-test.false)) c.loop-plex.invariant.loop c.if-done.true, c.loop-plex.invariant.loop.blames)

pub returns-else-done-clause-ends : goal.returns-else-done-clause-ends
returns-else-done-clause-ends g c = ends_none c.args.config.now c.args.vol _ _ _ _ _ _ _ c.requires.fits.few (omega (arith, c.loop-plex-test.false)) c.loop-plex.invariant.loop c.if-done.false c.requires.some
