-- Each case of a line that crashes a site.
use Rattle.std.proofs.Common.{◌≡◌}
use Rattle.std.specs.Prelude.{Some}
use Rattle.vx_events.specs.Facts.{seat_of}
use Rattle.vx_yard.specs.Yards.{in_files}
use Rattle.vx_yard.proofs.CrashSite.{crash_asks, crash_leads}
use Rattle.vx_events.proofs.Refused.{crash_may}
use Rattle.vx_yard.proofs.Seats.{named_some}
use Rattle.vx_site_lines.proofs.CrashAbove.{crash_above}
use Rattle.vx_site_lines.proofs.crash.crash_line.Goals as goal

pub site_of-site-requires-clause-named : goal.site_of-site-requires-clause-named
site_of-site-requires-clause-named g c = λ κs within. named_some c.args.yard.now c.args.name.now ((crash_may c.args.yard.now.facts.items (in_files c.args.yard.now) c.args.name.now c.args.pick c.requires.free).0)

pub returns-clause-leads : goal.returns-clause-leads
returns-clause-leads g c = λ d stands apart.
    let is : seat_of c.args.yard.now.facts.items c.args.name.now ≡ Some c.site_of-site.result = c.site_of-site.ensures.seat in
    crash_leads d c.args.yard.now c.go_down.new.yard c.args.name.now c.args.pick c.site_of-site.result stands c.requires.free is c.go_down.ensures.falls

pub returns-clause-asked : goal.returns-clause-asked
returns-clause-asked g c = λ d stands apart.
    let is : seat_of c.args.yard.now.facts.items c.args.name.now ≡ Some c.site_of-site.result = c.site_of-site.ensures.seat in
    crash_asks d c.args.yard.now c.go_down.new.yard c.args.name.now c.args.pick c.site_of-site.result stands c.requires.free is c.go_down.ensures.asked

pub returns-clause-above : goal.returns-clause-above
returns-clause-above g c = λ d stands rvg.
    let is : seat_of c.args.yard.now.facts.items c.args.name.now ≡ Some c.site_of-site.result = c.site_of-site.ensures.seat in
    crash_above d c.args.yard.now c.go_down.new.yard c.args.name.now c.args.pick c.site_of-site.result stands rvg c.requires.free is c.go_down.ensures.falls
