-- Whether the site of a line is over a group.
use Rattle.vx_yard.proofs.Lists.{get_at}
use Rattle.vx_group_lines.proofs.Going.{grouped_is}
use Rattle.vx_group_lines.proofs.lines.is_grouped.Goals as goal

pub returns : goal.returns
returns g c = λ d stands.
    grouped_is d c.args.yard.now c.args.name.now c.site_of-site.result c.index.result.now stands c.site_of-site.ensures.seat
    (get_at c.args.yard.now.facts.items c.site_of-site.result c.index.result.now c.site_of-site.ensures.fact c.index.ensures)
