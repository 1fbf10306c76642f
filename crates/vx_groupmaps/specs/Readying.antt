-- The maps of plexes that take part, as they are emptied.
use Rattle.std.specs.Prelude.{◌≡◌, ℕ, ◌<◌, Bool, true, false, IsTrue, Option, Some, None, Result, Ok, Err}
use Rattle.vx_config.specs.declared.config.Config.{Config}
use Rattle.vx_disk.specs.Counts.{Rose}
use Rattle.vx_disk.specs.Shelf.{Meaning}
use Rattle.vx_fmr.specs.Missed.{Missed, has_missed}
use Rattle.vx_logs.specs.Noting.{SameFmr}
use Rattle.vx_logs.specs.declared.logs.Logs.{Logs}
use Rattle.vx_model.specs.declared.no.No.{No}
use Rattle.vx_model.specs.declared.no.No.TheVariants as refusal
use Rattle.vx_volume.specs.Plexes.{active}

-- each plex that is not ACTIVE has the map that it had
pub record OffSame (c : Config) (v : ℕ) (f g : Missed) : Type 0 where
  pub same : SameFmr f g
  pub off : (p r : ℕ) → p < f.plexes → r < f.stride → active c v p ≡ false → has_missed g p r ≡ has_missed f p r

-- the log is there, with the maps of all other plexes, or it is lost, where its disk's count rose
abbrev pub ReadyEnds : Config → ℕ → Bool → Option Missed → Option Missed → Meaning → Meaning → Type 0
ReadyEnds c v gone None None m m' = gone ≡ false
ReadyEnds c v gone None (Some g) m m' = ⊥
ReadyEnds c v gone (Some f) None m m' = (gone ≡ true) × Rose (m.faults f.map.unit) (m'.faults f.map.unit)
ReadyEnds c v gone (Some f) (Some g) m m' = (gone ≡ false) × OffSame c v f g

-- what is answered: whether the log was lost
abbrev pub ReadyAnswers : Config → ℕ → Logs → Logs → Meaning → Meaning → Result Bool No → Type 0
ReadyAnswers c v old new m m' (Ok gone) = ReadyEnds c v gone old.fmr new.fmr m m' × (IsTrue m'.down → IsTrue m.down)
ReadyAnswers c v old new m m' (Err refusal.Down) = IsTrue m'.down
ReadyAnswers c v old new m m' (Err other) = ⊥
