-- The logs of configurations with the same volumes.
use Rattle.std.proofs.Common.{◌≡◌, ℕ, ◌≤◌, true, false, Option, length, ap, sym, ◌∙◌}
use Rattle.std.specs.Prelude.{slice_get}
use Rattle.std.proofs.lemmas.Option.{slice_get_past}
use Rattle.vx_config.specs.declared.config.Config.{Config}
use Rattle.vx_config.specs.declared.entry.VolumeEntry.{VolumeEntry}
use Rattle.vx_config.specs.declared.entry.VolumeLog.{VolumeLog}
use Rattle.vx_kept.specs.LogRuns.{log_lost, log_place, log_trusted, lost_or, run_or}
use Rattle.vx_maplog.specs.Logs.{log_of, log_or, used_or}
use Rattle.vx_kept.specs.Choice.{live, live_or}
use Rattle.vx_layout.specs.Places.{plex_in}

pub logs_volumes : (x a : Config) → x.volumes ≡ a.volumes → (v : ℕ) (log : VolumeLog) → log_of x v log ≡ log_of a v log
logs_volumes x a volumes v log = ap (λ vs. log_or log (slice_get vs v)) volumes

-- no volume, no log
pub none_trusted : (x : Config) (v : ℕ) (log : VolumeLog) → length x.volumes ≤ v → log_trusted x v log ≡ false
unfolding log_trusted
none_trusted x v log past = ap (λ (o : Option VolumeEntry). used_or (log_or log o)) (slice_get_past x.volumes v past)

pub none_live : (x : Config) (v p : ℕ) → length x.volumes ≤ v → live x v p ≡ false
unfolding live
none_live x v p past = ap (λ (o : Option VolumeEntry). live_or (plex_in o p)) (slice_get_past x.volumes v past)

-- one log that is the same
module _ (d c : Config) (x v : ℕ) (log : VolumeLog) (same : log_of d x log ≡ log_of c v log) where
  pub run_same : log_place d x log ≡ log_place c v log
  unfolding log_place
  run_same = ap run_or same

  pub trust_same : log_trusted d x log ≡ log_trusted c v log
  unfolding log_trusted
  trust_same = ap used_or same

  pub trust_from : log_trusted d x log ≡ true → log_trusted c v log ≡ true
  trust_from is = sym trust_same ∙ is

  pub lost_same : log_lost d x log ≡ log_lost c v log
  unfolding log_lost
  lost_same = ap lost_or same
