-- The log of a volume behind its marks, and behind marks that were taken off.
use Rattle.std.proofs.Common.{◌≡◌, ℕ, true, Some, None, IsTrue}
use Rattle.std.specs.Prelude.{Err}
use Rattle.vx_config.specs.declared.config.Config.{Config}
use Rattle.vx_config.specs.declared.entry.VolumeLog.TheVariants.{Drl as DrlLog}
use Rattle.vx_disk.specs.Shelf.{Meaning}
use Rattle.vx_kept.specs.LogRuns.{log_trusted}
use Rattle.vx_logs.specs.Writes.{MarksLogs}
use Rattle.vx_logs.specs.declared.logs.Logs.{Logs}
use Rattle.vx_model.specs.declared.no.No.{No}
use Rattle.vx_model.specs.declared.no.No.TheVariants as refusal
use Rattle.vx_grouplogs.specs.Clearing.{Clears}
use Rattle.vx_grouplogs.specs.Covering.{DiskCovers, KeepsOthers}
use Rattle.vx_grouplogs.specs.On.{VolumeOn}

-- a log that is in memory no more
pub on_gone : (c : Config) (v : ℕ) (m : Meaning) → (log_trusted c v DrlLog ≡ true → DiskCovers c v m) → VolumeOn c v (record { drl = None; fmr = None }) m
on_gone c v m disk = record {
  fits = record { drl = λ d is. absurd (let clash : None ≡ Some d = is in cc); fmr = λ f is. absurd (let clash : None ≡ Some f = is in cc) };
  stands = record { drl = λ d is. absurd (let clash : None ≡ Some d = is in cc); fmr = λ f is. absurd (let clash : None ≡ Some f = is in cc) };
  memory = record { so = λ d is. absurd (let clash : None ≡ Some d = is in cc) };
  disk = disk;
}

-- those of other volumes
pub on_others : (c : Config) (v : ℕ) (m m' : Meaning) → KeepsOthers c v m m' → (w : ℕ) (l : Logs) → (w ≡ v → ⊥) → VolumeOn c w l m → VolumeOn c w l m'
on_others c v m m' others w l apart on = record {
  fits = on.fits;
  stands = others.stands w l apart on.fits on.stands;
  memory = others.memory w l apart on.memory;
  disk = λ trusted. others.covers w apart (on.disk trusted);
}

-- ---- marks

pub mark_down : (c : Config) (v first last : ℕ) (l l' : Logs) (m m' : Meaning) (no : No) → MarksLogs c v first last l l' m m' (Err no) → IsTrue m'.down
mark_down c v first last l l' m m' refusal.Down down = down
mark_down c v first last l l' m m' other none = absurd none

-- ---- marks that are taken off

pub clear_down : (l l' : Logs) (m m' : Meaning) (no : No) → Clears l l' m m' (Err no) → IsTrue m'.down
clear_down l l' m m' refusal.Down down = down
clear_down l l' m m' other none = absurd none
