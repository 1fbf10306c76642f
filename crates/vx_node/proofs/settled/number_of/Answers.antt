-- The number of a site.
use Rattle.std.proofs.Common.{◌∙◌, List, ap, sym}
use Rattle.vx_order.specs.declared.facts.SiteFacts.{SiteFacts}
use Rattle.vx_events.specs.Facts.{seat_of}
use Rattle.vx_node.proofs.settled.number_of.Goals as goal

pub returns : goal.returns
returns g c = ap (λ (fs : List SiteFacts). seat_of fs c.args.name.now) (sym c.deref.ensures.value) ∙ sym c.find_seat.ensures ∙ c.in-Some.is
