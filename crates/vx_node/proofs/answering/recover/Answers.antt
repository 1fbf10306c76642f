-- A recovery of a site over no group, by whether its disks have a label of one.
use Rattle.std.proofs.Common.{refl}
use Rattle.vx_events.specs.Facts.{site_number}
use Rattle.vx_events.specs.RvgSteps.{over_rvg_at}
use Rattle.vx_events.specs.StepsOver.{over_group_at}
use Rattle.vx_node.proofs.Built.{neither}
use Rattle.vx_yard.proofs.OverGroup.{none_noted}
use Rattle.vx_script.specs.declared.line.ScriptLine.TheVariants.{Recover}
use Rattle.vx_yard.proofs.OfSites.{recovers_then}
use Rattle.vx_above.proofs.Works.{works_beside, works_then, works_whole}
use Rattle.vx_node.proofs.answering.recover.Goals as goal

pub returns-then-holds_group-clause-leads : goal.returns-then-holds_group-clause-leads
returns-then-holds_group-clause-leads g c = λ d stands goes.
    let line = Recover c.args.site.now in
    let mid = c.holds_group.new.yard in
    let stays = c.holds_group.ensures.stays d stands in
    let off = neither (over_group_at d.world c.args.site.now) (over_rvg_at d.world c.args.site.now) goes in
    works_then d line c.args.yard.now mid c.recover_found.new.yard c.recover_found.result stays
    (works_beside d line mid c.recover_found.new.yard tt refl off.1 c.recover_found.result
    (c.recover_found.ensures.leads d stays.stands (c.holds_group.ensures.holds d stands c.if-holds_group.true)))

pub returns-else-holds_group-clause-leads : goal.returns-else-holds_group-clause-leads
returns-else-holds_group-clause-leads g c = λ d stands goes.
    let line = Recover c.args.site.now in
    let mid = c.holds_group.new.yard in
    let stays = c.holds_group.ensures.stays d stands in
    let off = neither (over_group_at d.world c.args.site.now) (over_rvg_at d.world c.args.site.now) goes in
    works_then d line c.args.yard.now mid c.recover_line.new.yard c.recover_line.result stays
    (works_whole d line mid c.recover_line.new.yard tt refl off.1 c.recover_line.result off.0
    (c.recover_line.ensures.leads d stays.stands (none_noted (d.world.nodes (site_number d.world c.args.site.now)) off.0 off.1)))

pub returns-then-holds_group-clause-asked : goal.returns-then-holds_group-clause-asked
returns-then-holds_group-clause-asked g c = λ d stands apart.
    let s = site_number d.world c.args.site.now in
    let one = c.holds_group.ensures.asked d stands in
    recovers_then (d.world.nodes s).state s c.args.yard.now c.holds_group.new.yard c.recover_found.new.yard one
    (c.recover_found.ensures.asked d (c.holds_group.ensures.stays d stands).stands (c.holds_group.ensures.holds d stands c.if-holds_group.true))

pub returns-else-holds_group-clause-asked : goal.returns-else-holds_group-clause-asked
returns-else-holds_group-clause-asked g c = λ d stands apart.
    let s = site_number d.world c.args.site.now in
    let one = c.holds_group.ensures.asked d stands in
    recovers_then (d.world.nodes s).state s c.args.yard.now c.holds_group.new.yard c.recover_line.new.yard one
    (c.recover_line.ensures.asked d (c.holds_group.ensures.stays d stands).stands apart)
