-- `first_live`: its result; what stays true in its loop over `place`.
use Rattle.std.proofs.Common.{Some, ap, sym, ◌∙◌, arith}
use Rattle.vx_config.specs.Checks.{is_live}
use Rattle.vx_group.proofs.PlanLemmas.{at_get, first_at, first_none, none_step}
use Rattle.vx_group.proofs.planning.first_live.Goals as goal

pub returns-then-is_live : goal.returns-then-is_live
returns-then-is_live c =
    sym (first_at is_live c.args.plexes.now c.loop-place.place c.index-plexes-place.result c.loop-place.invariant
    (at_get c.args.plexes.now c.loop-place.place _ c.loop-place-test.true ∙ ap (λ p. Some p) (sym c.index-plexes-place.is)) (sym c.is_live.ensures ∙ c.if-is_live.true))

pub loop-place-preserved : goal.loop-place-preserved
loop-place-preserved c =
    none_step is_live c.args.plexes.now c.loop-place.place c.index-plexes-place.result c.loop-place.invariant
    (at_get c.args.plexes.now c.loop-place.place _ c.loop-place-test.true ∙ ap (λ p. Some p) (sym c.index-plexes-place.is)) (sym c.is_live.ensures ∙ c.if-is_live.false)

pub returns : goal.returns
returns c = sym (first_none is_live c.args.plexes.now c.loop-place.place (omega (arith, c.loop-place-test.false)) c.loop-place.invariant)
