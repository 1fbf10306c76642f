-- `view_at`: a site whose disks are a group, without a replicated volume group over it or with one.
use Rattle.std.proofs.Common.{◌∙◌, List, ap, sym}
use Rattle.std.specs.Prelude.{Option, Some, None}
use Rattle.vx_config.specs.declared.config.Config.{Config}
use Rattle.vx_order.specs.declared.facts.LinkFacts.{LinkFacts}
use Rattle.vx_above.specs.Seen.{links_seen}
use Rattle.vx_group_lines.specs.Views.{view_with}
use Rattle.vx_group_lines.proofs.GroupShown.{config_at}
use Rattle.vx_group_lines.proofs.views.view_at.Goals as goal

pub returns-clause-up : goal.returns-clause-up
returns-clause-up g c = λ f k at none has. c.full_at.ensures.plain c.new-links.ensures f has.disk_set at has.there none ∙ ap (λ (o : Option Config). view_with f o) (config_at has.disk_set (Some k) has.is)

pub returns-clause-off : goal.returns-clause-off
returns-clause-off g c = λ f at none has. c.full_at.ensures.plain c.new-links.ensures f has.disk_set at has.there none ∙ ap (λ (o : Option Config). view_with f o) (config_at has.disk_set None has.is)

pub returns-clause-above : goal.returns-clause-above
returns-clause-above g c = λ d f stands below over at links.
    c.full_at.ensures.above d f stands below over at (c.new-links.ensures ∙ ap (λ (ls : List LinkFacts). links_seen c.args.yard.now.facts.items ls) (sym links))
