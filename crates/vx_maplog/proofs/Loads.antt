-- A log that was read.
use Rattle.std.proofs.Common.{◌≡◌, ◌∙◌, ℕ, Some, ap, subst, arith}
use Rattle.std.specs.Prelude.{IfOk, Result, Ok, Err}
use Rattle.vx_disk.specs.Shelf.{Goes, Meaning, Nothing}
use Rattle.vx_config.specs.declared.config.Config.{Config}
use Rattle.vx_config.specs.declared.entry.LogEntry.{LogEntry}
use Rattle.vx_config.specs.declared.entry.VolumeLog.{VolumeLog}
use Rattle.vx_bitmap.specs.Maps.{Lies, Map, map_block_count}
use Rattle.vx_maplog.specs.Logs.{MapInRun, LogLoaded, log_of}
use Rattle.vx_maplog.proofs.Entries.{Placed}

module _ (c : Config) (v : ℕ) (log : VolumeLog) (l : LogEntry) (m m' : Meaning) (map : Map) (unit : ℕ) (is_unit : unit ≡ l.disk) (is : log_of c v log ≡ Some l)
    (at : Placed c v log l m) (told : MapInRun unit l.start l.blocks map) where
  run : MapInRun l.disk l.start l.blocks map
  run = subst (λ (u : ℕ). MapInRun u l.start l.blocks map) is_unit told

  pub log_loaded : LogLoaded c v log map
  log_loaded = record { entry = l; is = is; run = subst (λ (n : ℕ). MapInRun l.disk l.start n map) at.blocks run }

  pub log_lies : Goes Nothing m m' → Lies map m'
  log_lies goes = record {
    exists = omega (arith, run.there, at.exists, goes.units);
    within =
        let size : m'.size map.unit ≡ m.size l.disk = goes.size map.unit ∙ ap m.size run.there in
        let blocks : map_block_count map ≡ l.blocks = omega (arith, run.long) in
        omega (arith, run.begins, at.within, size, blocks);
  }

-- what holds of what was read, by what is known of it
pub ok_then : {T E : Type 0} {P Q : T → Type 0} (r : Result T E) → ((x : T) → P x → Q x) → IfOk r P → IfOk r Q
ok_then (Ok x) more is = more x is
ok_then (Err e) more is = is
