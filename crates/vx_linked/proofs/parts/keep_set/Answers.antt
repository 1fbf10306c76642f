-- `keep_set`: its result.
use Rattle.std.proofs.Common.{◌∙◌, ap, refl, sym}
use Rattle.vx_model.specs.declared.link.Link.{Link as PlainLink}
use Rattle.vx_order.specs.declared.facts.LinkFacts.{LinkFacts}
use Rattle.vx_linked.specs.Making.{set_link}
use Rattle.vx_linked.proofs.PartFacts.{set_found, set_shown, sets}
use Rattle.vx_linked.proofs.parts.keep_set.Goals as goal

pub returns-in-Some : goal.returns-in-Some
returns-in-Some c = record {
  world = λ w facts alone has said.
      let link = (c.link_between.ensures.world w c.in-Some.l facts c.in-Some.is).link_is in
      c.put_link.ensures.world w (sets w c.args.here c.args.there c.args.sync) facts refl
      (ap (λ (x : PlainLink). let f : LinkFacts = record { link = x; used = c.in-Some.l.used } in f) c.with_setting-link.ensures
      ∙ ap (λ (x : LinkFacts). let f : LinkFacts = record { link = set_link x.link c.args.sync; used = x.used } in f) link)
      ∙ sym (set_shown w c.args.here c.args.there c.args.sync said);
}

pub returns-in_default : goal.returns-in_default
returns-in_default c = record {
  world = λ w facts alone has said. absurd (set_found w c.args.here c.args.there c.args.sync c.args.sites.now facts alone has said (sym c.link_between.ensures.link ∙ c.in_default.is));
}
