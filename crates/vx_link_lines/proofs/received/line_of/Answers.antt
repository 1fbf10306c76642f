-- The line of a site, as its log keeps it.
use Rattle.std.proofs.Common.{ap}
use Rattle.vx_model.specs.declared.state.State.{State}
use Rattle.vx_link_lines.proofs.received.line_of.Goals as goal

pub returns-in-Some-clause-is : goal.returns-in-Some-clause-is
returns-in-Some-clause-is g c = λ beside n stands up apart. ap (λ (s : State). s.line) (c.in-Some.ensures.is beside n stands up apart).0
