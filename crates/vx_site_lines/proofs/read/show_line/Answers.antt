-- Each case of a line that shows blocks.
use Rattle.std.proofs.Common.{inr, refl}
use Rattle.vx_script.specs.declared.line.ScriptLine.TheVariants.{Show as ShowBlocks}
use Rattle.vx_events.proofs.RefusedCalls.{show_may}
use Rattle.vx_events.specs.Facts.{site_number}
use Rattle.vx_events.specs.StepsOver.{over_group_at}
use Rattle.vx_yard.specs.Yards.{in_files}
use Rattle.vx_yard.proofs.Leading.{room_waits, show_leads}
use Rattle.vx_yard.proofs.Lists.{get_at}
use Rattle.vx_yard.proofs.RawSites.{ungrouped_at}
use Rattle.vx_yard.proofs.Seats.{named_some}
use Rattle.vx_site_lines.proofs.Apart.{reads_alone}
use Rattle.vx_site_lines.proofs.read.show_line.Goals as goal

pub site_of-site-requires-clause-named : goal.site_of-site-requires-clause-named
site_of-site-requires-clause-named g c = λ κs within.
    named_some c.args.yard.now c.args.name.now (show_may c.args.yard.now.facts.items (in_files c.args.yard.now) c.args.name.now c.args.volume.now c.args.start c.args.count c.requires.free).site

pub fetch-requires-clause-free : goal.fetch-requires-clause-free
fetch-requires-clause-free g c = λ κs within. inr c.requires.free

pub returns-then-receives-clause-leads : goal.returns-then-receives-clause-leads
returns-then-receives-clause-leads g c = λ d stands apart off.
    let y = c.args.yard.now in
    let s = c.site_of-site.result in
    let there = get_at y.disk_sets.items s c.index.result.now c.site_of-site.ensures.disk_set c.index.ensures in
    c.show_received.ensures.leads d s stands (ungrouped_at d.world c.args.name.now apart off) c.site_of-site.ensures.seat
    (room_waits d y c.args.name.now s stands c.site_of-site.ensures.seat c.index.result.now c.receives.result there c.receives.ensures c.if-receives.true)

pub returns-then-receives-clause-asked : goal.returns-then-receives-clause-asked
returns-then-receives-clause-asked g c = λ d stands apart off.
    reads_alone (over_group_at d.world c.args.name.now) (site_number d.world c.args.name.now) c.args.yard.now _ apart (c.show_received.ensures.asked d stands (ungrouped_at d.world c.args.name.now apart off))

pub returns-clause-leads : goal.returns-clause-leads
returns-clause-leads g c = λ d stands apart off.
    let y = c.args.yard.now in
    let s = c.site_of-site.result in
    let there = get_at y.disk_sets.items s c.index.result.now c.site_of-site.ensures.disk_set c.index.ensures in
    c.fetch.ensures.leads d (ShowBlocks c.args.name.now c.args.volume.now c.args.start c.args.count) stands (ungrouped_at d.world c.args.name.now apart off) (inr refl) c.requires.free
    (show_leads d y c.args.name.now s stands c.site_of-site.ensures.seat c.index.result.now c.receives.result there c.receives.ensures c.if-receives.false c.args.volume.now c.args.start c.args.count c.requires.free)

pub returns-clause-asked : goal.returns-clause-asked
returns-clause-asked g c = λ d stands apart off.
    reads_alone (over_group_at d.world c.args.name.now) (site_number d.world c.args.name.now) c.args.yard.now _ apart (c.fetch.ensures.asked d stands (ungrouped_at d.world c.args.name.now apart off))

pub returns-then-receives-clause-above : goal.returns-then-receives-clause-above
returns-then-receives-clause-above g c = λ d stands over kind.
    let y = c.args.yard.now in
    let s = c.site_of-site.result in
    let there = get_at y.disk_sets.items s c.index.result.now c.site_of-site.ensures.disk_set c.index.ensures in
    c.show_received.ensures.above d s stands over kind c.site_of-site.ensures.seat
    (room_waits d y c.args.name.now s stands c.site_of-site.ensures.seat c.index.result.now c.receives.result there c.receives.ensures c.if-receives.true)

pub returns-clause-above : goal.returns-clause-above
returns-clause-above g c = λ d stands over kind.
    let y = c.args.yard.now in
    let s = c.site_of-site.result in
    let there = get_at y.disk_sets.items s c.index.result.now c.site_of-site.ensures.disk_set c.index.ensures in
    c.fetch.ensures.above d (ShowBlocks c.args.name.now c.args.volume.now c.args.start c.args.count) stands over kind (inr refl) c.requires.free
    (show_leads d y c.args.name.now s stands c.site_of-site.ensures.seat c.index.result.now c.receives.result there c.receives.ensures c.if-receives.false c.args.volume.now c.args.start c.args.count c.requires.free)
