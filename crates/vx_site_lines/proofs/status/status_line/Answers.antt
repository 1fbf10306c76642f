-- A line that asks for the status of a site.
use Rattle.std.proofs.Common.{◌∙◌, ap, List}
use Rattle.std.proofs.lemmas.Result.{err_from_is_err_and}
use Rattle.vx_order.specs.declared.facts.LinkFacts.{LinkFacts}
use Rattle.vx_order.specs.declared.facts.SiteFacts.{SiteFacts}
use Rattle.vx_script.specs.declared.line.ScriptLine.TheVariants.{Status}
use Rattle.vx_events.proofs.Refused.{status_may}
use Rattle.vx_yard.specs.Yards.{in_files}
use Rattle.vx_yard.proofs.Lists.{get_at}
use Rattle.vx_yard.proofs.Seats.{named_some}
use Rattle.vx_above.specs.Seen.{links_seen}
use Rattle.vx_site_lines.proofs.AboveEnds.{unbegun_above}
use Rattle.vx_site_lines.proofs.StatusLine.{status_above, status_leads}
use Rattle.vx_site_lines.proofs.status.status_line.Goals as goal

pub site_of-site-requires-clause-named : goal.site_of-site-requires-clause-named
site_of-site-requires-clause-named g c = λ κs within. named_some c.args.yard.now c.args.name.now (status_may c.args.yard.now.facts.items (in_files c.args.yard.now) c.args.name.now c.requires.free)

pub returns-in_err-room-clause-above : goal.returns-in_err-room-clause-above
returns-in_err-room-clause-above g c = λ d stands rvg.
    let p = err_from_is_err_and c.from_residual.result c.from_residual.ensures.1 in
    unbegun_above d (Status c.args.name.now) c.args.yard.now c.from_residual.result p.0 p.1 stands

pub returns-in_err-links-clause-above : goal.returns-in_err-links-clause-above
returns-in_err-links-clause-above g c = λ d stands rvg.
    let p = err_from_is_err_and c.from_residual-in_err-links.result c.from_residual-in_err-links.ensures.1 in
    unbegun_above d (Status c.args.name.now) c.args.yard.now c.from_residual-in_err-links.result p.0 p.1 stands

pub returns-clause-leads : goal.returns-clause-leads
returns-clause-leads g c = λ d stands apart off.
    let facts = c.args.yard.now.facts.items in
    let s = c.site_of-site.result in
    let at = get_at facts s c.index.result.now c.site_of-site.ensures.fact c.index.ensures in
    status_leads d c.args.yard.now c.args.name.now s c.full_at.result stands apart off c.site_of-site.ensures.seat
    (λ below over none. c.full_at.ensures.linked d c.index.result.now stands below over none at
    (c.in_ok-links.ensures ∙ ap (λ (ls : List LinkFacts). links_seen c.deref.result.now ls) c.as_slice.ensures
    ∙ ap (λ (fs : List SiteFacts). links_seen fs c.index.result.now.links) c.deref.ensures.value))

pub returns-clause-above : goal.returns-clause-above
returns-clause-above g c = λ d stands rvg.
    let facts = c.args.yard.now.facts.items in
    let s = c.site_of-site.result in
    let at = get_at facts s c.index.result.now c.site_of-site.ensures.fact c.index.ensures in
    status_above d c.args.yard.now c.args.name.now s c.full_at.result stands rvg c.site_of-site.ensures.seat
    (λ below over. c.full_at.ensures.above d c.index.result.now stands below over at
    (c.in_ok-links.ensures ∙ ap (λ (ls : List LinkFacts). links_seen c.deref.result.now ls) c.as_slice.ensures
    ∙ ap (λ (fs : List SiteFacts). links_seen fs c.index.result.now.links) c.deref.ensures.value))
