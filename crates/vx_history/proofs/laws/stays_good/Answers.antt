-- `stays_good`: its result.
use Rattle.vx_history.proofs.GoodLemmas.{good_empty, good_site, good_raw, good_group, good_written, good_half_written}
use Rattle.vx_history.proofs.CrashLemmas.{good_crashed, good_deported, good_fallen, good_recovered, good_back, good_session_begun, good_stopped}
use Rattle.vx_history.proofs.laws.stays_good.Goals as goal

pub returns : goal.returns
returns c = record {
  empty = good_empty;
  site = good_site;
  raw = good_raw;
  group = good_group;
  write = good_written;
  fault = good_half_written;
  crash = good_crashed;
  fall = good_fallen;
  deport = good_deported;
  recovery = good_recovered;
  again = good_back;
  refused = good_session_begun;
  halt = good_stopped;
}
