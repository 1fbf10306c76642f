-- `read_in_turn`: clause ends; what stays true in its loop over `turn`.
use Rattle.std.proofs.Common.{◌+◌, ◌/◌, ℕ, ap, sym, ◌∙◌, subst, arith}
use Rattle.vx_volume.specs.Steps.{ReadLoop}
use Rattle.vx_volume.proofs.TurnLemmas.{turns_end, turns_failed, turns_ok, turns_pass}
use Rattle.vx_volume.proofs.turns.read_in_turn.Goals.{then-is_active+in-Err-Fault, else-is_active}
use Rattle.vx_volume.proofs.turns.read_in_turn.Goals as goal

pub returns-in-Ok-clause-ends : goal.returns-in-Ok-clause-ends
returns-in-Ok-clause-ends g c =
    turns_ok c.args.config.now c.args.vol c.plex_count-plexes.result c.args.first c.loop-turn.turn c.loop-turn.device _ _ (omega (arith, c.requires.first, c.plex_count-plexes.ensures)) c.loop-turn.invariant _ c.read_plex.ensures.goes c.read_plex.ensures.down
    _ _ _ _ _ c.plex_count-plexes.ensures (ap (λ (n : ℕ). n / 512) c.loop-turn.auto.into) c.loop-turn-test.true (sym c.is_active.ensures ∙ c.if-is_active.true) c.in-Ok.ensures.cause c.in-Ok.ensures.ok

pub loop-turn-preserved : goal.loop-turn-preserved
loop-turn-preserved g c =
    elim c.if-is_active.branch [
      | then-is_active+in-Err-Fault w ↦
          subst (λ s. ReadLoop c.args.config.now c.args.vol c.plex_count-plexes.result c.args.first (c.loop-turn.turn + 1) c.if-is_active.device (g.S.Shelf.meaning c.args.shelf.now) (g.S.Shelf.meaning s)) (sym w.shelf-is)
          (turns_failed _ _ _ _ _ _ _ _ (omega (arith, c.requires.first, c.plex_count-plexes.ensures)) c.loop-turn.invariant _ w.read_plex.ensures.goes w.read_plex.ensures.down _ _ _ w.device-is w.in-Err-Fault.field-0-is w.in-Err-Fault.ensures.cause)
      | else-is_active w ↦
          subst (λ s. ReadLoop c.args.config.now c.args.vol c.plex_count-plexes.result c.args.first (c.loop-turn.turn + 1) c.if-is_active.device (g.S.Shelf.meaning c.args.shelf.now) (g.S.Shelf.meaning s)) (sym w.shelf-is)
          (turns_pass _ _ _ _ _ _ _ _ (omega (arith, c.requires.first, c.plex_count-plexes.ensures)) c.loop-turn.invariant _ w.device-is (sym c.is_active.ensures ∙ w.if-is_active.false))
    ]

pub returns-clause-ends : goal.returns-clause-ends
returns-clause-ends g c = turns_end c.args.config.now c.args.vol c.plex_count-plexes.result c.args.first c.loop-turn.turn c.loop-turn.device _ _ (omega (arith, c.requires.first, c.plex_count-plexes.ensures)) c.loop-turn.invariant c.requires.fits.sound c.plex_count-plexes.ensures c.loop-turn-test.false c.requires.some
