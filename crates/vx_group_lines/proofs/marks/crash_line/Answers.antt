-- Each case of a line that crashes a site over a group.
use Rattle.std.proofs.Common.{◌≡◌}
use Rattle.std.specs.Prelude.{Some}
use Rattle.vx_model.proofs.Lists.{get_there}
use Rattle.vx_events.proofs.Refused.{crash_may}
use Rattle.vx_events.specs.Facts.{seat_of}
use Rattle.vx_yard.proofs.CrashSite.{crash_asks}
use Rattle.vx_yard.proofs.Seats.{named_some}
use Rattle.vx_yard.specs.Yards.{in_files}
use Rattle.vx_group_lines.proofs.GroupMarks.{crash_group_leads}
use Rattle.vx_group_lines.proofs.marks.crash_line.Goals as goal

pub site_of-site-requires-clause-named : goal.site_of-site-requires-clause-named
site_of-site-requires-clause-named g c = λ κs within. named_some c.args.yard.now c.args.name.now ((crash_may c.args.yard.now.facts.items (in_files c.args.yard.now) c.args.name.now c.args.pick c.requires.free).0)

pub returns-clause-leads : goal.returns-clause-leads
returns-clause-leads g c = λ d stands over.
    let is : seat_of c.args.yard.now.facts.items c.args.name.now ≡ Some c.site_of-site.result = c.site_of-site.ensures.seat in
    let there = get_there c.args.yard.now.disk_sets.items c.site_of-site.result c.site_of-site.ensures.disk_set in
    crash_group_leads d c.args.yard.now c.go_down.new.yard c.args.name.now c.args.pick c.site_of-site.result there.0 stands c.requires.free is over there.1 c.go_down.ensures.falls

pub returns-clause-asked : goal.returns-clause-asked
returns-clause-asked g c = λ d stands over.
    let is : seat_of c.args.yard.now.facts.items c.args.name.now ≡ Some c.site_of-site.result = c.site_of-site.ensures.seat in
    crash_asks d c.args.yard.now c.go_down.new.yard c.args.name.now c.args.pick c.site_of-site.result stands c.requires.free is c.go_down.ensures.asked
