-- Whether the site of a line is over a group without a replicated volume group.
use Rattle.std.proofs.Common.{◌∙◌, ap, sym}
use Rattle.std.specs.Prelude.{not}
use Rattle.vx_events.proofs.Places.{some_same}
use Rattle.vx_order.specs.declared.facts.SiteFacts.{SiteFacts}
use Rattle.vx_yard.proofs.Lists.{get_at}
use Rattle.vx_group_lines.specs.Plain.{starts_with_data}
use Rattle.vx_group_lines.proofs.Going.{alone_off, alone_then}
use Rattle.vx_group_lines.proofs.lines.is_group.Goals as goal

pub returns-then-index : goal.returns-then-index
returns-then-index g c = λ d stands.
    let at = get_at c.args.yard.now.facts.items c.site_of-site.result c.index-then-index.result.now c.site_of-site.ensures.fact c.index-then-index.ensures in
    let was = get_at c.args.yard.now.facts.items c.site_of-site.result c.index.result.now c.site_of-site.ensures.fact c.index.ensures in
    let same = some_same (sym was ∙ at) in
    ap (λ b. not b) (c.leads_with_data.ensures ∙ ap (λ vs. starts_with_data vs) c.as_slice.ensures)
    ∙ alone_then d c.args.yard.now c.args.name.now c.site_of-site.result c.index-then-index.result.now stands c.site_of-site.ensures.seat at (ap (λ (f : SiteFacts). f.grouped) (sym same) ∙ c.if-index.true)

pub returns-else-index : goal.returns-else-index
returns-else-index g c = λ d stands.
    let was = get_at c.args.yard.now.facts.items c.site_of-site.result c.index.result.now c.site_of-site.ensures.fact c.index.ensures in
    alone_off d c.args.yard.now c.args.name.now c.site_of-site.result c.index.result.now stands c.site_of-site.ensures.seat was c.if-index.false
