-- `keep_marked`: its result.
use Rattle.std.proofs.Common.{◌∙◌, sym}
use Rattle.vx_model.specs.declared.site.Mark.TheVariants.{Consistent}
use Rattle.vx_model.specs.declared.link.Prot.TheVariants.{Fail as FailsWhenFull}
use Rattle.vx_effects.specs.Facts.{marked_fact}
use Rattle.vx_history.specs.declared.event.LinkPart.TheVariants.{Marked}
use Rattle.vx_effects.proofs.LinkParts.{two_done}
use Rattle.vx_linked.proofs.PartFacts.{marked_facts, put_site}
use Rattle.vx_linked.proofs.parts.keep_marked.Goals as goal

pub returns : goal.returns
returns c = record {
  world = λ w here sync facts alone said.
      let two = (two_done w here c.args.there sync FailsWhenFull Marked said).0 in
      put_site w c.args.sites.now c.args.there _ c.mark_site.new.site (marked_fact Consistent) facts two.second alone c.requires.second c.mark_site.ensures ∙ sym (marked_facts w here c.args.there sync alone said);
}
