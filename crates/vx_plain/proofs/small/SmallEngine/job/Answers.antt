-- `job`: clause acts.
use Rattle.std.proofs.Common.{◌∙◌, [], ◌∷◌, ◌++◌}
use Rattle.vx_turn.specs.declared.ask.Ask.TheVariants.{Charged}
use Rattle.vx_turn.specs.declared.ask.Said.TheVariants.{Worked}
use Rattle.vx_plain.specs.Trails.{trail_of}
use Rattle.vx_plain.proofs.small.SmallEngine.job.Goals as goal

pub returns-clause-acts : goal.returns-clause-acts
returns-clause-acts c = c.work-reply.ensures (trail_of c.args.self.now.trail.value) (trail_of c.noted.result.value)
    (c.noted.ensures ∙ (λ i. trail_of (c.replace.ensures.value i).value ++ (Charged (c.of.ensures i), Worked (c.of-2.ensures i) (c.of-3.ensures i)) ∷ []))
