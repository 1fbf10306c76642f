-- The state with the links as the header of the log keeps them.
use Rattle.std.proofs.Common.{◌≡◌, ◌∙◌, List, ap}
use Rattle.std.specs.Prelude.{slice_index_or}
use Rattle.vx_model.specs.declared.site.SiteState.{SiteState}
use Rattle.vx_model.specs.declared.state.KeptLink.{KeptLink}
use Rattle.vx_model.specs.declared.state.State.{State}
use Rattle.vx_order.specs.declared.facts.SiteFacts.{SiteFacts}
use Rattle.vx_diskset.specs.Holds.{state_with}
use Rattle.vx_events.specs.LinkedFacts.{links_by, links_of_site}
use Rattle.vx_linked.proofs.PartFacts.{site_of}
use Rattle.vx_link_lines.proofs.SetLink.{state_so}
use Rattle.vx_link_lines.proofs.hearing.state_here.Goals as goal

pub returns-clause-is : goal.returns-clause-is
returns-clause-is g c = λ beside n w stood up alone facts below here_up here_alone.
    let here : (slice_index_or c.args.sites.now c.args.here c.index-sites-here.result).links ≡ links_of_site w c.args.here =
    ap (λ (f : SiteFacts). f.links) (site_of w c.args.sites.now c.args.here _ facts below here_alone c.requires.within) ∙ ap (λ (t : SiteState). links_by t (links_of_site w c.args.here)) here_up in
    let kept = c.in-Some.ensures.world w c.args.here (c.as_slice.ensures ∙ here) in
    let state = (c.in-Some-state.ensures.is beside n stood up alone).0 in
    state_so c.with_links.result _ _
    (ap (λ (s : State). let t : State = record s { links = c.in-Some.kept } in t) state ∙ ap (λ (ls : List KeptLink). state_with n ls) kept)
    c.with_links.ensures.is
