-- Each case of disks of a site that crashed, as they are started.
use Rattle.vx_diskset.proofs.KeepsFailing.{failing_stopped, failing_then}
use Rattle.vx_site_lines.proofs.RiseCases.{later_then}
use Rattle.vx_site_lines.proofs.raised.raise_disks.Goals as goal

pub returns-in-Some-clause-rose : goal.returns-in-Some-clause-rose
returns-in-Some-clause-rose g c = (c.in-Ok.ensures.raised, record { is = c.in-Some.ensures.is; told = c.in-Some.ensures.told; spelled = c.in-Some.ensures.spelled })

pub returns-in-Some-clause-failing : goal.returns-in-Some-clause-failing
returns-in-Some-clause-failing g c = c.in-Ok.ensures.failing

pub returns-in-Some-clause-later : goal.returns-in-Some-clause-later
returns-in-Some-clause-later g c = c.in-Ok.ensures.later

pub returns-in-None-clause-rose : goal.returns-in-None-clause-rose
returns-in-None-clause-rose g c = record {
  up = c.raise.new.place;
  raised = c.in-Ok.ensures.raised;
  later = c.in-Ok.ensures.later;
  failing = c.in-Ok.ensures.failing;
  none = record { none = c.in-None.ensures.some };
  back = record { crashed = c.crash_in.ensures.crashed };
  fell = c.crash_in.ensures.later;
  fails = failing_stopped _ c.raise.new.place c.crash_in.new.place c.crash_in.ensures.stopped;
}

pub returns-in-None-clause-failing : goal.returns-in-None-clause-failing
returns-in-None-clause-failing g c =
    failing_then c.args.place.now c.raise.new.place c.crash_in.new.place c.in-Ok.ensures.failing (failing_stopped _ c.raise.new.place c.crash_in.new.place c.crash_in.ensures.stopped)

pub returns-in-None-clause-later : goal.returns-in-None-clause-later
returns-in-None-clause-later g c = later_then c.args.place.now c.raise.new.place c.crash_in.new.place c.in-Ok.ensures.later c.crash_in.ensures.later

pub returns-in-Err-clause-rose : goal.returns-in-Err-clause-rose
returns-in-Err-clause-rose g c = c.in-Err.ensures.raised

pub returns-in-Err-clause-failing : goal.returns-in-Err-clause-failing
returns-in-Err-clause-failing g c = c.in-Err.ensures.failing

pub returns-in-Err-clause-later : goal.returns-in-Err-clause-later
returns-in-Err-clause-later g c = c.in-Err.ensures.later
