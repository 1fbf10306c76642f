-- What a deport says of the logs of a volume.
use Rattle.std.specs.Prelude.{◌≡◌, ℕ, Bool, true, false, Some, None, List, slice_get}
use Rattle.vx_config.specs.declared.config.Config.{Config}
use Rattle.vx_config.specs.declared.entry.VolumeLog.TheVariants.{Drl, Fmr}
use Rattle.vx_fmr.specs.Missed.{Missed}
use Rattle.vx_kept.specs.LogRuns.{log_trusted}
use Rattle.vx_logimport.specs.Rests.{rests}
use Rattle.vx_logimport.specs.declared.rested.Rested.{Rested}
use Rattle.vx_logs.specs.declared.logs.Logs.{Logs}

-- Its maps know what its plexes miss where they are in memory, or held as lost, and only there; its dirty region log may be read where it is in memory, or held as
-- lost, and only there.
pub record VolumeRests (c : Config) (v : ℕ) (l : Logs) (map drl : Bool) : Type 0 where
  pub has : map ≡ true → log_trusted c v Fmr ≡ true → l.fmr ≡ None → ⊥
  pub some : (f : Missed) → l.fmr ≡ Some f → map ≡ true
  pub kept : drl ≡ true → log_trusted c v Drl ≡ true → l.drl ≡ None → ⊥
  pub lacks : drl ≡ false → (log_trusted c v Drl ≡ true) × (l.drl ≡ None)

-- so it is of each volume; and those are alike that were
pub record AllRest (c : Config) (logs : List Logs) (alike : List Bool) (r : Rested) : Type 0 where
  pub each : (v : ℕ) (l : Logs) → slice_get logs v ≡ Some l → VolumeRests c v l (rests r.maps v) (rests r.drls v)
  pub same : r.alike ≡ alike
