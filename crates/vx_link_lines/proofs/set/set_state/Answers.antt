-- The state with the links as the header keeps them behind the setting.
use Rattle.std.proofs.Common.{◌≡◌, ◌∙◌, List, ap}
use Rattle.vx_model.specs.declared.link.Prot.TheVariants.{Fail as FailsWhenFull}
use Rattle.vx_model.specs.declared.link.Link.{Link as PlainLink}
use Rattle.vx_model.specs.declared.site.SiteState.{SiteState}
use Rattle.vx_model.specs.declared.state.KeptLink.{KeptLink}
use Rattle.vx_model.specs.declared.state.State.{State}
use Rattle.vx_order.specs.declared.facts.SiteFacts.{SiteFacts}
use Rattle.vx_diskset.specs.Holds.{header_links, state_with}
use Rattle.vx_effects.specs.LinkParts.{kept_over}
use Rattle.std.specs.Prelude.{slice_index_or}
use Rattle.vx_history.specs.Step.{step}
use Rattle.vx_history.specs.declared.event.Event.TheVariants.{Set as SetAt}
use Rattle.vx_events.specs.LinkedFacts.{links_by, links_of_site}
use Rattle.vx_linked.proofs.PartFacts.{site_of}
use Rattle.vx_linked.specs.Making.{kept_plain, set_link}
use Rattle.vx_link_lines.proofs.SetLink.{set_links, state_so}
use Rattle.vx_link_lines.proofs.set.set_state.Goals as goal

pub returns-clause-is : goal.returns-clause-is
returns-clause-is g c = λ beside n w stood up alone facts has said.
    let found = c.link_between.ensures.world w c.in-Some.l facts c.in-Some.is in
    let here : (slice_index_or c.args.sites.now c.args.here c.index-sites-here.result).links ≡ links_of_site w c.args.here =
    ap (λ (f : SiteFacts). f.links) (site_of w c.args.sites.now c.args.here _ facts found.below found.apart c.requires.within)
    ∙ ap (λ (t : SiteState). links_by t (links_of_site w c.args.here)) found.up in
    let kept = c.in-Some-kept_facts.ensures.world w c.args.here (c.as_slice.ensures ∙ here) in
    let state = (c.in-Some-state.ensures.is beside n stood up alone).0 in
    let links : c.kept_with.result ≡ header_links (step w (SetAt c.args.here c.args.there c.args.sync FailsWhenFull)).world c.args.here =
    c.kept_with.ensures.links
    ∙ ap (λ (l : PlainLink). kept_over (kept_plain l) c.as_slice-2.result.now) c.with_setting-link.ensures
    ∙ ap (λ (ls : List KeptLink). kept_over (kept_plain (set_link c.in-Some.l.link c.args.sync)) ls) (c.as_slice-2.ensures.links ∙ kept)
    ∙ set_links w c.args.here c.args.there c.args.sync c.in-Some.l said found.link_is in
    state_so c.with_links.result _ _
    (ap (λ (s : State). let t : State = record s { links = c.kept_with.result } in t) state ∙ ap (λ (ls : List KeptLink). state_with n ls) links)
    c.with_links.ensures.is
