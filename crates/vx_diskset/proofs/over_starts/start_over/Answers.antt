-- A start over the volumes of a group, and the disks of the site behind it.
use Rattle.std.proofs.Common.{subst}
use Rattle.std.specs.Prelude.{◌&&◌, not}
use Rattle.vx_grouped.specs.SiteEnds.{stops_down}
use Rattle.vx_diskset.specs.Aboves.{site_in}
use Rattle.vx_diskset.specs.OverStarts.{StartsIn}
use Rattle.vx_diskset.proofs.OverStarting.{back_as}
use Rattle.vx_diskset.proofs.over_starts.start_over.Goals as goal

pub start_in-laid-requires-clause-there : goal.start_in-laid-requires-clause-there
start_in-laid-requires-clause-there g c = λ κs lives. c.requires.there

pub start_in-laid-requires-clause-large : goal.start_in-laid-requires-clause-large
start_in-laid-requires-clause-large g c = λ κs lives. c.requires.large

pub of-requires-after_bounds : goal.of-requires-after_bounds
of-requires-after_bounds g c = λ κs lives.
    let it = subst (λ r. StartsIn c.args.units.now c.args.laid c.start_in-laid.result.0 r) c.in-Ok.is c.start_in-laid.ensures.starts in
    it.0.does.1

pub returns-in-Ok : goal.returns-in-Ok
returns-in-Ok g c =
    let it = subst (λ r. StartsIn c.args.units.now c.args.laid c.start_in-laid.result.0 r) c.in-Ok.is c.start_in-laid.ensures.starts in
    record {
      starts = record {
        laid = c.start_in-laid.result.0;
        core = c.in-Ok.core;
        starts = it.0;
        alone = it.1;
        site = c.of.ensures.site;
        above = c.of.ensures.above;
        cut = c.of.ensures.cut;
      };
    }

pub returns-in-Err : goal.returns-in-Err
returns-in-Err g c = record {
  starts = record {
    mid = c.start_in-laid.result.0;
    idle = c.back_at-site.ensures.0;
    tried = (subst (λ r. StartsIn c.args.units.now c.args.laid c.start_in-laid.result.0 r) c.in-Err.is c.start_in-laid.ensures.starts).0;
    up = (subst (λ r. StartsIn c.args.units.now c.args.laid c.start_in-laid.result.0 r) c.in-Err.is c.start_in-laid.ensures.starts).1;
    fell = c.back_at-site.ensures.1;
    site = back_as (c.args.away && not (stops_down c.in-Err.stop)) c.rests_away-rests.result c.back_at-site.ensures.0 c.back_at-site.result (site_in c.of-in-Err.result) c.rests_away-rests.ensures c.of-in-Err.ensures.site c.back_at-site.ensures.2;
    cut_is = c.of-in-Err.ensures.cut;
  };
}
