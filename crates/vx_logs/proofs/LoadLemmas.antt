-- Logs that are in use.
use Rattle.std.proofs.Common.{◌≡◌, ◌∙◌, ℕ, ◌<◌, true, false, Option, Some, None, refl, sym, ap}
use Rattle.vx_config.specs.Checks.{blocks_of, is_sound}
use Rattle.vx_config.specs.declared.config.Config.{Config}
use Rattle.vx_config.specs.declared.entry.LogEntry.{LogEntry}
use Rattle.vx_config.specs.declared.entry.VolumeLog.{VolumeLog}
use Rattle.vx_maplog.specs.Logs.{HasLog, log_of, is_used, used_or}

-- a volume with blocks and a log in use has that log
pub has_log : (c : Config) (v : ℕ) (log : VolumeLog) → is_sound c ≡ true → 0 < blocks_of c.volumes v → is_used c v log ≡ true → HasLog c v log
has_log c v log sound some used = by (log_of c v log) refl
  where
    by : (o : Option LogEntry) → log_of c v log ≡ o → HasLog c v log
    by None is = absurd (let clash : false ≡ true = ap used_or (sym is) ∙ used in cc)
    by (Some e) is = record { sound = sound; entry = e; is = is; some = some }
