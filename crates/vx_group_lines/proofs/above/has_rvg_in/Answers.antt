-- Whether a site has a replicated volume group over its group.
use Rattle.std.proofs.Common.{◌∙◌, ap, sym}
use Rattle.vx_events.proofs.Places.{some_same}
use Rattle.vx_order.specs.declared.facts.SiteFacts.{SiteFacts}
use Rattle.vx_yard.proofs.Lists.{get_at}
use Rattle.vx_group_lines.proofs.OverSeen.{over_off, over_then}
use Rattle.vx_group_lines.specs.Plain.{starts_with_data}
use Rattle.vx_group_lines.proofs.above.has_rvg_in.Goals as goal

pub returns-then-index : goal.returns-then-index
returns-then-index g c = λ d stands.
    let facts = c.args.yard.now.facts.items in
    let at = get_at facts c.args.site c.index-then-index.result.now c.requires.there c.index-then-index.ensures in
    let was = get_at facts c.args.site c.index.result.now c.requires.there c.index.ensures in
    c.leads_with_data.ensures ∙ ap (λ vs. starts_with_data vs) c.as_slice.ensures
    ∙ over_then d c.args.yard.now c.args.site c.index-then-index.result.now stands c.requires.there at (ap (λ (f : SiteFacts). f.grouped) (some_same (sym at ∙ was)) ∙ c.if-index.true)

pub returns-else-index : goal.returns-else-index
returns-else-index g c = λ d stands.
    let facts = c.args.yard.now.facts.items in
    let was = get_at facts c.args.site c.index.result.now c.requires.there c.index.ensures in
    over_off d c.args.yard.now c.args.site c.index.result.now stands c.requires.there was c.if-index.false
