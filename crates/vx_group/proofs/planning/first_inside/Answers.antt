-- `first_inside`: its result; what stays true in its loop over `place`.
use Rattle.std.proofs.Common.{Some, ap, sym, ◌∙◌, arith}
use Rattle.vx_group.specs.Resumes.{takes_in}
use Rattle.vx_group.proofs.PlanLemmas.{at_get, first_at, first_none, none_step}
use Rattle.vx_group.proofs.planning.first_inside.Goals as goal

pub returns-then-takes_in : goal.returns-then-takes_in
returns-then-takes_in c =
    sym (first_at (takes_in c.args.good) c.args.plexes.now c.loop-place.place c.index-plexes-place.result c.loop-place.invariant
    (at_get c.args.plexes.now c.loop-place.place _ c.loop-place-test.true ∙ ap (λ p. Some p) (sym c.index-plexes-place.is)) (sym c.takes_in.ensures ∙ c.if-takes_in.true))

pub loop-place-preserved : goal.loop-place-preserved
loop-place-preserved c =
    none_step (takes_in c.args.good) c.args.plexes.now c.loop-place.place c.index-plexes-place.result c.loop-place.invariant
    (at_get c.args.plexes.now c.loop-place.place _ c.loop-place-test.true ∙ ap (λ p. Some p) (sym c.index-plexes-place.is)) (sym c.takes_in.ensures ∙ c.if-takes_in.false)

pub returns : goal.returns
returns c = sym (first_none (takes_in c.args.good) c.args.plexes.now c.loop-place.place (omega (arith, c.loop-place-test.false)) c.loop-place.invariant)
