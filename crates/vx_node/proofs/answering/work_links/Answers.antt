-- The work of a line on links: it works at no site of a group.
use Rattle.vx_above.proofs.Works.{works_whole}
use Rattle.vx_node.proofs.LinkKinds.{links_make_none, links_no_group, links_no_rvg}
use Rattle.vx_node.proofs.answering.work_links.Goals as goal

pub work_link-requires-clause-free : goal.work_link-requires-clause-free
work_link-requires-clause-free g c = λ κs lives. c.requires.free

pub returns-clause-leads : goal.returns-clause-leads
returns-clause-leads g c = λ d stands closed carries.
    let words = c.args.words.now in
    let on = c.requires.kind in
    works_whole d words c.args.yard.now c.work_link.new.yard (links_make_none words on) closed (links_no_rvg d.world words on) c.work_link.result (links_no_group d.world words on)
    (c.work_link.ensures.leads d stands closed carries)

pub returns-clause-asked : goal.returns-clause-asked
returns-clause-asked g c = λ d stands links. c.work_link.ensures.asked d stands links

pub returns-clause-called : goal.returns-clause-called
returns-clause-called g c = λ d stands links. c.work_link.ensures.called d stands links
