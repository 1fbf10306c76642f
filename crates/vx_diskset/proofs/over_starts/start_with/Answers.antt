-- A start over the volumes of a group that came up.
use Rattle.std.proofs.Common.{◌∙◌, ap, inr, refl, sym}
use Rattle.std.specs.Prelude.{Err, Ok}
use Rattle.vx_diskset.specs.OverStarts.{is_alone}
use Rattle.vx_diskset.proofs.OverStarting.{start_refused, starts_as}
use Rattle.vx_diskset.proofs.over_starts.start_with.Goals as goal

pub work_over-laid-requires-after_bounds : goal.work_over-laid-requires-after_bounds
work_over-laid-requires-after_bounds g c = λ κs lives. (c.requires.there, c.requires.large, c.requires.room, c.requires.maps)

pub returns-then-stands_alone : goal.returns-then-stands_alone
returns-then-stands_alone g c = record {
  starts = (
    starts_as c.args.units.now c.args.laid c.work_over-laid.result.0 c.work_over-laid.result.1 (Ok c.in-Ok.core) c.work_over-laid.ensures.does c.work_over-laid.ensures.ground c.work_over-laid.ensures.since c.work_over-laid.ensures.told c.in-Ok.is,
    ap (λ s. is_alone s) (sym c.state.ensures.is) ∙ sym c.stands_alone.ensures ∙ c.if-stands_alone.true,
  );
}

pub returns-else-stands_alone : goal.returns-else-stands_alone
returns-else-stands_alone g c = record {
  starts = (
    inr (
      refl,
      record {
        core = c.in-Ok.core;
        starts = starts_as c.args.units.now c.args.laid c.work_over-laid.result.0 c.work_over-laid.result.1 (Ok c.in-Ok.core) c.work_over-laid.ensures.does c.work_over-laid.ensures.ground c.work_over-laid.ensures.since c.work_over-laid.ensures.told c.in-Ok.is;
        linked = ap (λ s. is_alone s) (sym c.state.ensures.is) ∙ sym c.stands_alone.ensures ∙ c.if-stands_alone.false;
      },
    ),
    λ why same on down.
        (starts_as c.args.units.now c.args.laid c.work_over-laid.result.0 c.work_over-laid.result.1 (Ok c.in-Ok.core) c.work_over-laid.ensures.does c.work_over-laid.ensures.ground c.work_over-laid.ensures.since c.work_over-laid.ensures.told c.in-Ok.is).does.3 down,
  );
}

pub returns-in-Err : goal.returns-in-Err
returns-in-Err g c = record {
  starts =
      start_refused c.args.units.now c.args.laid c.work_over-laid.result.0 c.in-Err.no c.why_refused-why.result
      (starts_as c.args.units.now c.args.laid c.work_over-laid.result.0 c.work_over-laid.result.1 (Err c.in-Err.no) c.work_over-laid.ensures.does c.work_over-laid.ensures.ground c.work_over-laid.ensures.since c.work_over-laid.ensures.told c.in-Err.is)
      c.why_refused-why.ensures.off c.why_refused-why.ensures.up;
}
