-- A replicated volume group that was found on disks that tell nothing.
use Rattle.std.proofs.Common.{inl, subst}
use Rattle.vx_diskset.specs.OverStarts.{StartsIn}
use Rattle.vx_diskset.proofs.OverStarting.{plain_fails}
use Rattle.vx_diskset.proofs.over_starts.start_dark.Goals as goal

pub start_in-laid-requires-clause-there : goal.start_in-laid-requires-clause-there
start_in-laid-requires-clause-there g c = λ κs lives. c.requires.there

pub start_in-laid-requires-clause-large : goal.start_in-laid-requires-clause-large
start_in-laid-requires-clause-large g c = λ κs lives. c.requires.large

pub of-requires-after_bounds : goal.of-requires-after_bounds
of-requires-after_bounds g c = λ κs lives.
    let it = subst (λ r. StartsIn c.args.units.now c.args.laid c.start_in-laid.result.0 r) c.in-Ok.is c.start_in-laid.ensures.starts in
    it.0.does.1

pub returns-in-Ok : goal.returns-in-Ok
returns-in-Ok g c =
    let it = subst (λ r. StartsIn c.args.units.now c.args.laid c.start_in-laid.result.0 r) c.in-Ok.is c.start_in-laid.ensures.starts in
    record {
      starts = λ dark. (
        dark,
        record {
          laid = c.start_in-laid.result.0;
          core = c.in-Ok.core;
          starts = it.0;
          alone = it.1;
          site = c.of.ensures.site;
          above = c.of.ensures.above;
          cut = c.of.ensures.cut;
        },
      );
    }

pub returns-in-Err : goal.returns-in-Err
returns-in-Err g c = record {
  starts = λ dark.
      plain_fails c.args.away c.args.rested c.args.units.now c.args.laid c.start_in-laid.result.0 c.args.cut c.in-Err.stop c.plain_back.result.0 c.plain_back.result.1
      (inl (dark, (subst (λ r. StartsIn c.args.units.now c.args.laid c.start_in-laid.result.0 r) c.in-Err.is c.start_in-laid.ensures.starts).0)) c.plain_back.ensures;
}
