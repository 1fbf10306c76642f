-- `may_name`: that it leaves the configuration as it was, and its result.
use Rattle.std.proofs.Common.{Option, ap, ◌∙◌}
use Rattle.vx_model.specs.declared.units.Units.{Units}
use Rattle.vx_group.specs.Rvgs.{with_rvg}
use Rattle.vx_group.proofs.RvgLemmas.{may_is}
use Rattle.vx_group.proofs.grouping.may_name.Goals as goal

pub returns-clause-same : goal.returns-clause-same
returns-clause-same c = ap (λ (r : Option Units). with_rvg r c.args.config.now) c.named_by-before.ensures

pub returns-clause-is : goal.returns-clause-is
returns-clause-is c = c.check-is_sound.ensures ∙ may_is c.args.config.now c.args.units.now c.copy.result c.copy.ensures c.requires.sound
