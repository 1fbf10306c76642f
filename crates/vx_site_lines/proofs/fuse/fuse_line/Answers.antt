-- Each case of a line that sets the fuse of a site.
use Rattle.std.proofs.Common.{◌≡◌, refl}
use Rattle.std.specs.Prelude.{Some}
use Rattle.vx_events.specs.Facts.{seat_of}
use Rattle.vx_yard.specs.Yards.{in_files}
use Rattle.vx_yard.proofs.ChangeSite.{told_before}
use Rattle.vx_site_lines.proofs.FuseLine.{fuse_above, fuse_asks, fuse_leads}
use Rattle.vx_yard.proofs.Lists.{get_at}
use Rattle.vx_events.proofs.Refused.{fuse_may}
use Rattle.vx_yard.proofs.Seats.{named_some}
use Rattle.vx_site_lines.proofs.fuse.fuse_line.Goals as goal

pub site_of-site-requires-clause-named : goal.site_of-site-requires-clause-named
site_of-site-requires-clause-named g c = λ κs within. named_some c.args.yard.now c.args.name.now ((fuse_may c.args.yard.now.facts.items (in_files c.args.yard.now) c.args.name.now c.args.calls c.args.pick c.requires.free).0)

pub returns-clause-told : goal.returns-clause-told
returns-clause-told g c =
    let disk_sets = c.args.yard.now.disk_sets.items in
    told_before disk_sets c.site_of-site.result c.index_mut.result.now c.fuse.new.self
    (get_at disk_sets c.site_of-site.result c.index_mut.result.now c.site_of-site.ensures.disk_set c.index_mut.ensures.value) c.fuse.ensures.later

pub returns-clause-leads : goal.returns-clause-leads
returns-clause-leads g c = λ d stands apart.
    let disk_sets = c.args.yard.now.disk_sets.items in
    let is : seat_of c.args.yard.now.facts.items c.args.name.now ≡ Some c.site_of-site.result = c.site_of-site.ensures.seat in
    let at = get_at disk_sets c.site_of-site.result c.index_mut.result.now c.site_of-site.ensures.disk_set c.index_mut.ensures.value in
    fuse_leads d c.args.yard.now _ c.args.name.now c.args.calls c.args.pick c.site_of-site.result c.index_mut.result.now c.fuse.new.self stands apart c.requires.free is
    (record { there = at; later = c.fuse.ensures.later; disk_sets = refl; racks = refl }) c.fuse.ensures.role c.fuse.ensures.noted c.fuse.ensures.fused c.fuse.ensures.asked refl
    (record { flight = refl; assemblies = refl; feeders = refl })

pub returns-clause-asked : goal.returns-clause-asked
returns-clause-asked g c = λ d stands apart.
    let disk_sets = c.args.yard.now.disk_sets.items in
    let is : seat_of c.args.yard.now.facts.items c.args.name.now ≡ Some c.site_of-site.result = c.site_of-site.ensures.seat in
    let at = get_at disk_sets c.site_of-site.result c.index_mut.result.now c.site_of-site.ensures.disk_set c.index_mut.ensures.value in
    fuse_asks d c.args.yard.now _ c.args.name.now c.args.calls c.args.pick c.site_of-site.result c.index_mut.result.now c.fuse.new.self stands c.requires.free is
    (record { there = at; later = c.fuse.ensures.later; disk_sets = refl; racks = refl }) c.fuse.ensures.asked

pub returns-clause-above : goal.returns-clause-above
returns-clause-above g c = λ d stands rvg.
    let disk_sets = c.args.yard.now.disk_sets.items in
    let is : seat_of c.args.yard.now.facts.items c.args.name.now ≡ Some c.site_of-site.result = c.site_of-site.ensures.seat in
    let at = get_at disk_sets c.site_of-site.result c.index_mut.result.now c.site_of-site.ensures.disk_set c.index_mut.ensures.value in
    fuse_above d c.args.yard.now _ c.args.name.now c.args.calls c.args.pick c.site_of-site.result c.index_mut.result.now c.fuse.new.self stands rvg c.requires.free is
    (record { there = at; later = c.fuse.ensures.later; disk_sets = refl; racks = refl }) c.fuse.ensures.role c.fuse.ensures.noted c.fuse.ensures.fused c.fuse.ensures.asked refl
    (record { flight = refl; assemblies = refl; feeders = refl })
