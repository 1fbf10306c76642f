-- Each clause is its theorem.
use Rattle.vx_events.proofs.Agreeing.{site_agrees, raw_agrees, crash_agrees, write_agrees, put_agrees, read_agrees, show_agrees, apply_agrees}
use Rattle.vx_events.proofs.laws.tests_agree.Goals as goal

pub returns : goal.returns
returns c = record {
  site = site_agrees;
  raw = raw_agrees;
  crash = crash_agrees;
  write = write_agrees;
  put = put_agrees;
  read = read_agrees;
  show = show_agrees;
  apply = apply_agrees;
}
