-- `kept_facts`: clause world.
use Rattle.std.proofs.Common.{◌∙◌, List, ap}
use Rattle.vx_history.specs.Events.{linked_sites}
use Rattle.vx_order.specs.declared.facts.LinkFacts.{LinkFacts}
use Rattle.vx_linked.specs.Making.{kept_each}
use Rattle.vx_linked.proofs.PartFacts.{each_kept}
use Rattle.vx_linked.proofs.kept.kept_facts.Goals as goal

pub returns-clause-world : goal.returns-clause-world
returns-clause-world c = λ w p is.
    c.keep_each.ensures ∙ ap (λ (ls : List LinkFacts). kept_each ls) is ∙ each_kept (w.nodes p) (w.links p) (linked_sites (w.links p) w.sites 0 w.sites)
