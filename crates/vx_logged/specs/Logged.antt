-- The dirty region log of a volume of a group, between its calls.
use Rattle.std.specs.Prelude.{◌≡◌, ◌⊎◌, ◌+◌, ◌≤◌, ℕ, Bool, true, not, IsTrue, None}
use Rattle.vx_model.specs.declared.limits.TheConstants.{COMMIT_SERIALS}
use Rattle.vx_config.specs.Table.{greatest}
use Rattle.vx_config.specs.declared.config.Config.{Config}
use Rattle.vx_config.specs.declared.entry.VolumeLog.{VolumeLog}
use Rattle.vx_config.specs.declared.entry.VolumeLog.TheVariants.{Drl, Fmr}
use Rattle.vx_disk.specs.Shelf.{Meaning}
use Rattle.vx_group.specs.Holding.{wide}
use Rattle.vx_group.specs.declared.group_core.GroupCore.{GroupCore}
use Rattle.vx_grouplogs.specs.Gone.{LogsDrop, has_log}
use Rattle.vx_grouplogs.specs.Marking.{HoldRegions}
use Rattle.vx_grouplogs.specs.On.{VolumeOn}
use Rattle.vx_groupmaps.specs.Knowing.{MapsKnow, MapsKnowBy}
use Rattle.vx_kept.specs.Keeping.{SameShape}
use Rattle.vx_kept.specs.LogRuns.{log_trusted}
use Rattle.vx_logs.specs.declared.logs.Logs.{Logs}
use Rattle.vx_volume.specs.Plexes.{active}

-- the log of volume v of a group stands, over the plexes that may be ACTIVE by what the disks keep
abbrev pub LogOn : GroupCore → ℕ → Logs → Meaning → Type 0
LogOn core v l m = VolumeOn (wide core).config v l m

-- the maps of missed regions of volume v know of its plexes, but for the regions that are spared
abbrev pub KnownBy : GroupCore → ℕ → (ℕ → ℕ → Bool) → Logs → Meaning → Type 0
KnownBy core v spare l m = MapsKnowBy (wide core).config v spare l m

-- none is spared
abbrev pub Known : GroupCore → ℕ → Logs → Meaning → Type 0
Known core v l m = MapsKnow (wide core).config v l m

-- each log stands where it stood, and maps know what they knew
pub record EachOn (c d : GroupCore) (old new : Meaning) : Type 0 where
  pub each : (w : ℕ) (l : Logs) → LogOn c w l old → LogOn d w l new
  pub maps : (w : ℕ) (spare : ℕ → ℕ → Bool) (l : Logs) → KnownBy c w spare l old → KnownBy d w spare l new

-- so it is of another volume
pub record OthersOn (v : ℕ) (c d : GroupCore) (old new : Meaning) : Type 0 where
  pub each : (w : ℕ) (l : Logs) → (w ≡ v → ⊥) → LogOn c w l old → LogOn d w l new
  pub maps : (w : ℕ) (l : Logs) → (w ≡ v → ⊥) → Known c w l old → Known d w l new

-- a log that is not held as lost is in memory
abbrev pub LogKept : GroupCore → ℕ → Logs → Type 0
LogKept core v l = log_trusted (wide core).config v Drl ≡ true → l.drl ≡ None → ⊥

-- the same volumes at the same places; no log is trusted that was not, and no plex is ACTIVE that was not
pub record Narrowed (c d : GroupCore) : Type 0 where
  pub shape : SameShape (wide d).config (wide c).config
  pub less : (w : ℕ) (log : VolumeLog) → log_trusted (wide d).config w log ≡ true → log_trusted (wide c).config w log ≡ true
  pub on : (w p : ℕ) → IsTrue (active (wide d).config w p) → IsTrue (active (wide c).config w p)

-- no log is held as lost that was not, but those of volume v that are not in memory
pub record TrustsIn (v : ℕ) (k : Logs) (c d : Config) : Type 0 where
  pub each : (w : ℕ) (log : VolumeLog) → (w ≡ v → has_log log k ≡ true) → log_trusted c w log ≡ true → log_trusted d w log ≡ true

-- of a log that is in memory no more the count of its disk rose, unless no serial is left in d to commit that it is lost
pub record DropsBut (c d : GroupCore) (v : ℕ) (l k : Logs) (old new : Meaning) : Type 0 where
  pub so : LogsDrop (wide c).config v l k old new ⊎ (greatest ≤ d.inner.config.serial + COMMIT_SERIALS)
  pub none : (log : VolumeLog) → has_log log k ≡ true → has_log log l ≡ true

-- the plexes of volume v that are not ACTIVE
abbrev pub are_off : GroupCore → ℕ → ℕ → Bool
are_off core v p = not (active (wide core).config v p)

-- a log of missed regions that is not held as lost is in memory
abbrev pub MapKept : GroupCore → ℕ → Logs → Type 0
MapKept core v l = log_trusted (wide core).config v Fmr ≡ true → l.fmr ≡ None → ⊥

-- these regions may be written: the log has them, or is held as lost
pub record MayWrite (core : GroupCore) (v first last : ℕ) (l : Logs) : Type 0 where
  pub some : LogKept core v l
  pub held : HoldRegions first last l
