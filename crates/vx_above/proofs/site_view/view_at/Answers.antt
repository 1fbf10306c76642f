-- `view_at`: its result.
use Rattle.std.proofs.Common.{◌∙◌, ap, List}
use Rattle.vx_order.specs.declared.facts.SiteFacts.{SiteFacts}
use Rattle.vx_above.specs.Seen.{site_seen}
use Rattle.vx_yard.proofs.Lists.{get_at}
use Rattle.vx_above.proofs.StatusLinks.{linked_view_is}
use Rattle.vx_above.proofs.site_view.view_at.Goals as goal

pub returns : goal.returns
returns g c = record {
  linked = λ d f stands below apart at links.
      linked_view_is d c.args.yard.now c.args.site c.session-session.result c.index-2.result.now f c.args.links c.index.result.now c.view.result stands below apart
      (get_at c.args.yard.now.facts.items c.args.site c.index-2.result.now c.requires.site c.index-2.ensures) at
      (get_at c.args.yard.now.disk_sets.items c.args.site c.index.result.now c.requires.disk_set c.index.ensures)
      c.session-session.ensures.is
      (c.view.ensures ∙ ap (λ (fs : List SiteFacts). site_seen fs c.session-session.result c.index-2.result.now c.args.links) c.deref.ensures.value)
      links;
}
