-- Each case of a line that makes a disk fail, or ends that.
use Rattle.std.proofs.Common.{◌≡◌, refl}
use Rattle.std.specs.Prelude.{Some}
use Rattle.vx_events.specs.Facts.{seat_of, site_number}
use Rattle.vx_yard.specs.Yards.{in_files}
use Rattle.vx_yard.proofs.ChangeSite.{told_before}
use Rattle.vx_events.proofs.RvgEvents.{rvg_apart}
use Rattle.vx_site_lines.proofs.DiskLine.{disk_above, disk_asks, disk_leads, disk_set_so}
use Rattle.vx_yard.proofs.Lists.{get_at}
use Rattle.vx_events.proofs.Refused.{disk_may}
use Rattle.vx_yard.proofs.Seats.{named_some}
use Rattle.vx_site_lines.proofs.disk.set_disk.Goals as goal

pub site_of-site-requires-clause-named : goal.site_of-site-requires-clause-named
site_of-site-requires-clause-named g c = λ κs within. named_some c.args.yard.now c.args.name.now ((disk_may c.args.yard.now.facts.items (in_files c.args.yard.now) c.args.name.now c.args.disk c.args.state c.requires.free).0)

pub returns-clause-told : goal.returns-clause-told
returns-clause-told g c =
    let disk_sets = c.args.yard.now.disk_sets.items in
    told_before disk_sets c.site_of-site.result c.index_mut.result.now c.fail.new.self
    (get_at disk_sets c.site_of-site.result c.index_mut.result.now c.site_of-site.ensures.disk_set c.index_mut.ensures.value) c.fail.ensures.later

pub returns-clause-leads : goal.returns-clause-leads
returns-clause-leads g c = λ d stands apart.
    let disk_sets = c.args.yard.now.disk_sets.items in
    let is : seat_of c.args.yard.now.facts.items c.args.name.now ≡ Some c.site_of-site.result = c.site_of-site.ensures.seat in
    let at = get_at disk_sets c.site_of-site.result c.index_mut.result.now c.site_of-site.ensures.disk_set c.index_mut.ensures.value in
    disk_leads d c.args.yard.now _ c.args.name.now c.args.disk c.args.state c.site_of-site.result c.index_mut.result.now c.fail.new.self stands apart is
    (record { there = at; later = c.fail.ensures.later; disk_sets = refl; racks = refl }) c.fail.ensures.role c.fail.ensures.noted c.fail.ensures.stands
    (disk_set_so d c.args.yard.now c.args.name.now c.args.disk c.args.state c.is_failing.result c.site_of-site.result c.index_mut.result.now c.fail.new.self stands apart c.requires.free is c.is_failing.ensures at c.fail.ensures.asked) refl (record { flight = refl; assemblies = refl; feeders = refl })

pub returns-clause-asked : goal.returns-clause-asked
returns-clause-asked g c = λ d stands apart.
    let disk_sets = c.args.yard.now.disk_sets.items in
    let is : seat_of c.args.yard.now.facts.items c.args.name.now ≡ Some c.site_of-site.result = c.site_of-site.ensures.seat in
    let at = get_at disk_sets c.site_of-site.result c.index_mut.result.now c.site_of-site.ensures.disk_set c.index_mut.ensures.value in
    disk_asks d c.args.yard.now _ c.args.name.now c.args.disk c.args.state c.site_of-site.result c.index_mut.result.now c.fail.new.self stands is
    (record { there = at; later = c.fail.ensures.later; disk_sets = refl; racks = refl })
    (disk_set_so d c.args.yard.now c.args.name.now c.args.disk c.args.state c.is_failing.result c.site_of-site.result c.index_mut.result.now c.fail.new.self stands apart c.requires.free is c.is_failing.ensures at c.fail.ensures.asked)

pub returns-clause-above : goal.returns-clause-above
returns-clause-above g c = λ d stands rvg.
    let disk_sets = c.args.yard.now.disk_sets.items in
    let is : seat_of c.args.yard.now.facts.items c.args.name.now ≡ Some c.site_of-site.result = c.site_of-site.ensures.seat in
    let at = get_at disk_sets c.site_of-site.result c.index_mut.result.now c.site_of-site.ensures.disk_set c.index_mut.ensures.value in
    let apart = rvg_apart (d.world.nodes (site_number d.world c.args.name.now)) rvg in
    disk_above d c.args.yard.now _ c.args.name.now c.args.disk c.args.state c.site_of-site.result c.index_mut.result.now c.fail.new.self stands rvg is
    (record { there = at; later = c.fail.ensures.later; disk_sets = refl; racks = refl }) c.fail.ensures.role c.fail.ensures.noted c.fail.ensures.stands
    (disk_set_so d c.args.yard.now c.args.name.now c.args.disk c.args.state c.is_failing.result c.site_of-site.result c.index_mut.result.now c.fail.new.self stands apart c.requires.free is c.is_failing.ensures at c.fail.ensures.asked) refl (record { flight = refl; assemblies = refl; feeders = refl })
