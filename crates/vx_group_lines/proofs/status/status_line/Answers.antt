-- A line that asks for the status of a site over a group.
use Rattle.vx_model.proofs.Lists.{get_there}
use Rattle.vx_events.proofs.Refused.{status_may}
use Rattle.vx_yard.proofs.Seats.{named_some}
use Rattle.vx_yard.specs.Yards.{in_files}
use Rattle.vx_group_lines.proofs.GroupShown.{status_leads}
use Rattle.vx_group_lines.proofs.status.status_line.Goals as goal

pub site_of-site-requires-clause-named : goal.site_of-site-requires-clause-named
site_of-site-requires-clause-named g c = λ κs within. named_some c.args.yard.now c.args.name.now (status_may c.args.yard.now.facts.items (in_files c.args.yard.now) c.args.name.now c.requires.free)

pub returns : goal.returns
returns g c = record {
  leads = λ d stands over.
      let there = get_there c.args.yard.now.disk_sets.items c.site_of-site.result c.site_of-site.ensures.disk_set in
      status_leads d c.args.yard.now c.args.name.now c.site_of-site.result there.0 c.view_at.result stands c.site_of-site.ensures.seat over there.1 c.view_at.ensures.up c.view_at.ensures.off;
}
