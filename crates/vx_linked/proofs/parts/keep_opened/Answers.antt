-- `keep_opened`: its result.
use Rattle.std.proofs.Common.{◌∙◌, ap, refl, sym}
use Rattle.vx_model.specs.declared.link.Prot.TheVariants.{Fail as FailsWhenFull}
use Rattle.vx_order.specs.declared.facts.LinkFacts.{LinkFacts}
use Rattle.vx_history.specs.declared.event.LinkPart.TheVariants.{Opened}
use Rattle.vx_effects.proofs.LinkParts.{two_done}
use Rattle.vx_linked.specs.Making.{opened_link}
use Rattle.vx_linked.proofs.PartFacts.{opened_fact, opened_linked, opened_shown, opens, some_between}
use Rattle.vx_linked.proofs.parts.keep_opened.Goals as goal

pub returns-in-Some : goal.returns-in-Some
returns-in-Some c = record {
  world = λ w sync facts alone has last said.
      let link = (c.link_between.ensures.world w c.in-Some.l facts c.in-Some.is).link_is in
      c.put_link.ensures.world w (opens w c.args.here c.args.there sync) facts refl
      (opened_fact w c.args.here c.args.there sync said c.args.last last c.opened-link.result (c.opened-link.ensures ∙ ap (λ (x : LinkFacts). opened_link x.link c.args.last) link))
      ∙ sym (opened_shown w c.args.here c.args.there sync said);
}

pub returns-in_default : goal.returns-in_default
returns-in_default c = record {
  world = λ w sync facts alone has last said.
      let two = (two_done w c.args.here c.args.there sync FailsWhenFull Opened said).0 in
      absurd (some_between w c.args.sites.now c.args.here c.args.there facts two.first alone two.up has (opened_linked w c.args.here c.args.there sync said) (sym c.link_between.ensures.link ∙ c.in_default.is));
}
