-- The same by a name.
use Rattle.std.proofs.Common.{◌∙◌}
use Rattle.vx_group_lines.proofs.OverSeen.{over_named}
use Rattle.vx_group_lines.proofs.above.has_rvg.Goals as goal

pub returns : goal.returns
returns g c = λ d stands. c.has_rvg_in.ensures d stands ∙ over_named d c.args.yard.now c.args.name.now c.site_of-site.result stands c.site_of-site.ensures.seat
