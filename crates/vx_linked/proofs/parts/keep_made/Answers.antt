-- `keep_made`: its result.
use Rattle.std.proofs.Common.{◌∙◌, ap, sym}
use Rattle.std.specs.Prelude.{slice_set}
use Rattle.vx_model.specs.declared.link.Prot.TheVariants.{Fail as FailsWhenFull}
use Rattle.vx_model.specs.declared.link.Link.{Link as PlainLink}
use Rattle.vx_order.specs.declared.facts.LinkFacts.{LinkFacts}
use Rattle.vx_events.specs.LinkedFacts.{linked_fact}
use Rattle.vx_events.specs.StepsOver.{facts_over}
use Rattle.vx_effects.specs.LinkParts.{further_fact}
use Rattle.vx_history.specs.declared.event.LinkPart.TheVariants.{Made}
use Rattle.vx_effects.proofs.LinkParts.{two_done}
use Rattle.vx_linked.proofs.PartFacts.{made_facts, put_site}
use Rattle.vx_linked.proofs.parts.keep_made.Goals as goal

pub returns : goal.returns
returns c = record {
  world = λ w facts alone has session said.
      let two = (two_done w c.args.here c.args.there c.args.sync FailsWhenFull Made said).0 in
      put_site w c.args.sites.now c.args.here _ c.add_link.new.site (further_fact (let x : LinkFacts = record { link = c.new_link-link.result; used = 0 } in x)) facts two.first alone c.requires.first c.add_link.ensures
      ∙ ap (λ (l : PlainLink). slice_set (facts_over w) c.args.here (further_fact (let x : LinkFacts = record { link = l; used = 0 } in x) (linked_fact w c.args.here))) c.new_link-link.ensures
      ∙ sym (made_facts w c.args.here c.args.there c.args.sync alone has c.args.session session said);
}
