-- `judge`: clause fits.
use Rattle.std.proofs.Common.{sym, subst, ◌∙◌}
use Rattle.vx_copies.specs.Bodies.{HasFewDisks}
use Rattle.vx_copies.proofs.Bodies.{read_fits}
use Rattle.vx_copies.proofs.area.judge.Goals as goal

pub returns-else-config-serial-clause-fits : goal.returns-else-config-serial-clause-fits
returns-else-config-serial-clause-fits g c = (
  read_fits _ _ c.args.body.now c.in-Ok-Some.config (sym c.in-Ok-Some.field-0-is ∙ c.in-Ok-Some.ensures.found),
  subst HasFewDisks c.in-Ok-Some.field-0-is c.in-Ok-Some.ensures.few,
)
