-- `link_sites`: its result.
use Rattle.std.proofs.Common.{◌∙◌}
use Rattle.vx_history.specs.Refusals.{at_site, both_at_work}
use Rattle.vx_history.specs.Step.{link_part}
use Rattle.vx_sites.specs.Shapes.{world_of}
use Rattle.vx_world.proofs.Passing.{passed}
use Rattle.vx_world.proofs.settings.link_sites.Goals as goal

pub returns : goal.returns
returns c =
    let w = world_of c.args.world.now in
    let o = link_part c.args.part w c.args.from c.args.to c.args.sync c.args.prot in
    let o2 = both_at_work w c.args.from c.args.to o in
    passed c.link_by_part.result (world_of c.link_by_part.new.world) o (at_site w c.args.from (at_site w c.args.to o2))
    (c.in_default-refuse_work_of_both.ensures o ∙ c.in_default-refuse_site.ensures.refuses o2 ∙ c.in_default.ensures.refuses
    (at_site w c.args.to o2)) c.link_by_part.ensures
