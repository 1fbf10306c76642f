-- `keep_joined`: clauses world and links.
use Rattle.std.proofs.Common.{◌≡◌, ◌∙◌, ap, refl, sym}
use Rattle.std.specs.Prelude.{slice_set}
use Rattle.vx_model.specs.declared.link.Prot.TheVariants.{Fail as FailsWhenFull}
use Rattle.vx_order.specs.declared.facts.RvgFacts.{RvgFacts}
use Rattle.vx_order.specs.declared.facts.SiteFacts.{SiteFacts}
use Rattle.vx_events.proofs.Places.{never_some, some_same}
use Rattle.vx_events.specs.Facts.{group_fact}
use Rattle.vx_events.specs.LinkedFacts.{linked_fact}
use Rattle.vx_events.specs.StepsOver.{facts_over}
use Rattle.vx_effects.specs.LinkParts.{joined_fact}
use Rattle.vx_history.specs.declared.event.LinkPart.TheVariants.{Joins}
use Rattle.vx_effects.proofs.LinkParts.{two_done}
use Rattle.vx_linked.proofs.PartFacts.{group_shown, joined_facts, joined_links, put_site, site_of}
use Rattle.vx_linked.proofs.parts.keep_joined.Goals as goal

pub returns-in-Some-clause-world : goal.returns-in-Some-clause-world
returns-in-Some-clause-world c = λ w sync facts first second said.
    let two = (two_done w c.args.here c.args.there sync FailsWhenFull Joins said).0 in
    let there : c.index-sites-here.result ≡ linked_fact w c.args.here = c.index-sites-here.is ∙ site_of w c.args.sites.now c.args.here _ facts two.first first c.requires.first in
    let group : c.in-Some.first ≡ group_fact (w.nodes c.args.here) =
    some_same (sym c.in-Some.is ∙ c.group_of.ensures ∙ ap (λ (f : SiteFacts). f.rvg) (sym c.index-sites-here.is ∙ there) ∙ group_shown w c.args.here c.args.there sync said) in
    put_site w c.args.sites.now c.args.there _ c.join_site.new.site (joined_fact c.in-Some.first.line c.in-Some.first.parent) facts two.second second c.requires.second c.join_site.ensures
    ∙ ap (λ (r : RvgFacts). slice_set (facts_over w) c.args.there (joined_fact r.line r.parent (linked_fact w c.args.there))) group
    ∙ sym (joined_facts w c.args.here c.args.there sync second said)

pub returns-in-Some-clause-links : goal.returns-in-Some-clause-links
returns-in-Some-clause-links c = joined_links c.in-Some.first.line c.in-Some.first.parent c.args.sites.now c.args.there _ c.join_site.new.site c.requires.second c.join_site.ensures

pub returns-in_default-clause-world : goal.returns-in_default-clause-world
returns-in_default-clause-world c = λ w sync facts first second said.
    let two = (two_done w c.args.here c.args.there sync FailsWhenFull Joins said).0 in
    let there : c.index-sites-here.result ≡ linked_fact w c.args.here = c.index-sites-here.is ∙ site_of w c.args.sites.now c.args.here _ facts two.first first c.requires.first in
    absurd (never_some (sym c.in_default.is ∙ c.group_of.ensures ∙ ap (λ (f : SiteFacts). f.rvg) (sym c.index-sites-here.is ∙ there) ∙ group_shown w c.args.here c.args.there sync said))

pub returns-in_default-clause-links : goal.returns-in_default-clause-links
returns-in_default-clause-links c = λ k site there. record { other = site; there = there; links = refl }
