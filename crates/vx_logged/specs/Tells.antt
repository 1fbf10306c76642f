-- What the dirty region logs on the disks tell an import.
use Rattle.std.specs.Prelude.{◌≡◌, ℕ, ◌/◌, false, IsTrue}
use Rattle.vx_model.specs.declared.limits.TheConstants.{REGION}
use Rattle.vx_config.specs.declared.config.Config.{Config}
use Rattle.vx_config.specs.declared.entry.LogEntry.{LogEntry}
use Rattle.vx_config.specs.declared.entry.VolumeLog.TheVariants.{Drl}
use Rattle.vx_copyfmt.specs.Imports.{Found}
use Rattle.vx_disk.specs.Shelf.{Each, Image, Meaning}
use Rattle.vx_kept.specs.Choice.{live}
use Rattle.vx_kept.specs.Groups.{found}
use Rattle.vx_layout.specs.Places.{place}
use Rattle.vx_logs.specs.Held.{InUse, logged_in}
use Rattle.vx_volume.specs.Plexes.{Inside}

-- of an image with this configuration: where the log of a volume is in use and has not the region of a block, plexes that take part have the
-- same there
pub record ImageTells (x : Config) (v : ℕ) (i : Image) : Type 0 where
  pub so : (e : LogEntry) (p q b : ℕ) → InUse x v Drl e → Inside x v b → IsTrue (live x v p) → IsTrue (live x v q) → logged_in e i (b / REGION) ≡ false
      → i (place x v p b).0 (place x v p b).1 ≡ i (place x v q b).0 (place x v q b).1

-- the same of each image that a crash may leave, by the configuration that is found in it
pub record LogTells (v : ℕ) (m : Meaning) : Type 0 where
  pub so : (i : Image) (x : Config) → Each m.leaves i → found m i ≡ Found x → ImageTells x v i
