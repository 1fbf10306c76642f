-- Each clause is part of its theorem.
use Rattle.vx_effects.proofs.Effects.{crash_effect, resolved_changes}
use Rattle.vx_effects.proofs.Groups.{again_effect, deport_effect, group_effect}
use Rattle.vx_effects.proofs.Origins.{origin_effect}
use Rattle.vx_effects.proofs.Rises.{applied_effect, fault_effect, idle_effect, left_quiet, note_effect, raw_effect, reached_effect, read_effect, recover_effect, session_effect, set_effect, site_adds}
use Rattle.vx_effects.proofs.Writes.{half_effect, write_effect}
use Rattle.vx_effects.proofs.laws.changes_one_site.Goals as goal

pub returns : goal.returns
returns c = record {
  resolved = resolved_changes;
  crash = crash_effect;
  recover = recover_effect;
  origin = origin_effect;
  session = session_effect;
  write = write_effect;
  half = half_effect;
  read = read_effect;
  reached = reached_effect;
  idle = idle_effect;
  applied = applied_effect;
  fault = fault_effect;
  set = set_effect;
  raw = raw_effect;
  group = group_effect;
  again = again_effect;
  deport = deport_effect;
  note = note_effect;
  left = left_quiet;
  site = site_adds;
}
