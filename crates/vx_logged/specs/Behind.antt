-- What stands in the logs of a volume before its plexes are written.
use Rattle.std.specs.Prelude.{◌⊎◌, ◌+◌, ◌≤◌, ℕ, Bool, false, true, List, Result, Ok, Err}
use Rattle.vx_model.specs.declared.limits.TheConstants.{COMMIT_SERIALS}
use Rattle.vx_config.specs.Table.{greatest}
use Rattle.vx_disk.specs.Shelf.{Goes, Meaning, Nothing, Written}
use Rattle.vx_group.specs.Holding.{GroupStands, wide}
use Rattle.vx_group.specs.Stands.{inner_meaning}
use Rattle.vx_group.specs.declared.group_core.GroupCore.{GroupCore}
use Rattle.vx_groupmaps.specs.Missing.{HoldMissed}
use Rattle.vx_logs.specs.Held.{LogsStand}
use Rattle.vx_logs.specs.declared.logs.Logs.{Logs}
use Rattle.vx_logged.specs.Logged.{LogKept, MapKept, MayWrite, are_off}

-- the log of missed regions is in memory, or held as lost, unless no serial is left to say so
abbrev pub MapSaid : GroupCore → ℕ → Logs → Type 0
MapSaid core v l = MapKept core v l ⊎ (greatest ≤ core.inner.config.serial + COMMIT_SERIALS)

-- each log of the volume is in memory, or held as lost
pub record BothKept (core : GroupCore) (v : ℕ) (l : Logs) : Type 0 where
  pub drl : LogKept core v l
  pub fmr : MapKept core v l

-- a log of the volume that is in memory no more is held as lost, unless no serial is left to say so
pub record AreKept (core : GroupCore) (v : ℕ) (l : Logs) : Type 0 where
  pub so : (LogKept core v l × MapSaid core v l) ⊎ (greatest ≤ core.inner.config.serial + COMMIT_SERIALS)

-- The regions of a run are durably in both logs of a volume, whatever a crash leaves, as dirty, and as missed by each plex that is STALE in c; or the
-- log is held as lost by what is committed.
pub record RunIsMarked (c core : GroupCore) (v first last : ℕ) (l : Logs) (m : Meaning) : Type 0 where
  pub group : GroupStands core m
  pub stands : LogsStand l m
  pub dirty : MayWrite core v first last l
  pub said : MapSaid core v l
  pub missed : HoldMissed (wide c).config v first last l

-- There was a moment at which the run was marked and all volumes read as before; since then the write alone changed them.
pub record BehindMarks {S : Type 0} (meaning : S → Meaning) (v block : ℕ) (bytes : List ℕ) (first last : ℕ) (c d : GroupCore) (old new : Meaning) : Type 0 where
  pub moment : S
  pub core : GroupCore
  pub logs : Logs
  pub before : Goes Nothing (inner_meaning (wide c) old) (inner_meaning (wide core) (meaning moment))
  pub marked : RunIsMarked c core v first last logs (meaning moment)
  pub behind : Goes (Written v block bytes) (inner_meaning (wide core) (meaning moment)) (inner_meaning (wide d) new)

-- no plex is written before the run is marked
abbrev pub MarkedBefore : {S : Type 0} → (S → Meaning) → ℕ → ℕ → List ℕ → ℕ → ℕ → GroupCore → GroupCore → Meaning → Meaning → Type 0
MarkedBefore meaning v block bytes first last c d old new =
    Goes Nothing (inner_meaning (wide c) old) (inner_meaning (wide d) new) ⊎ BehindMarks meaning v block bytes first last c d old new

-- no plex
abbrev pub none_missing : ℕ → Bool
none_missing p = false

-- each plex
abbrev pub all_those : ℕ → Bool
all_those p = true

-- of which plexes a write may note its regions: behind an Ok of those that are not ACTIVE, and behind a refusal of any
abbrev pub those_missing : {T E : Type 0} → GroupCore → ℕ → Result T E → ℕ → Bool
those_missing core v (Ok x) p = are_off core v p
those_missing core v (Err e) p = true
