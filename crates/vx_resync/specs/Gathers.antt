-- What a copy of the regions that one plex has missed needs, and why a copy is refused.
use Rattle.std.specs.Prelude.{◌≡◌, ◌⊎◌, ℕ, ◌/◌, Bool, false, IsTrue, Option, Some, None, List, Result, Ok, Err}
use Rattle.vx_disk.specs.Counts.{Rose}
use Rattle.vx_disk.specs.Shelf.{Meaning}
use Rattle.vx_model.specs.declared.limits.TheConstants.{REGION}
use Rattle.vx_model.specs.declared.no.No.{No}
use Rattle.vx_model.specs.declared.no.No.TheVariants as refusal
use Rattle.vx_config.specs.declared.config.Config.{Config}
use Rattle.vx_layout.specs.Places.{place}
use Rattle.vx_volume.specs.Plexes.{Inside}
use Rattle.vx_volume.specs.Volumes.{PlexBlamed}

-- A plex misses these regions alone: in each other one it reads what the source reads.
pub record MissesOnly (c : Config) (v source p : ℕ) (missed : ℕ → Bool) (m : Meaning) : Type 0 where
  pub same : (k : ℕ) (x y : List ℕ) → Inside c v k → missed (k / REGION) ≡ false → m.reads (place c v p k).0 (place c v p k).1 x → m.reads (place c v source k).0 (place c v source k).1 y → x ≡ y

-- why a call on the one plex that is copied to was refused: one on a disk of it failed
abbrev pub TargetRefused : {T : Type 0} → Config → ℕ → Option ℕ → Meaning → Meaning → Result T No → Type 0
TargetRefused c v None old new r = Unit {0}
TargetRefused c v (Some p) old new (Ok x) = IsTrue new.down → ⊥
TargetRefused c v (Some p) old new (Err (refusal.Device disk)) = PlexBlamed c v p old new × Rose (old.disk_faults disk) (new.disk_faults disk) × (IsTrue new.down → ⊥)
TargetRefused c v (Some p) old new (Err refusal.Down) = IsTrue new.down
TargetRefused c v (Some p) old new (Err other) = ⊥

-- why a copy to one plex alone was refused: a call on a disk of one of the two plexes failed
abbrev pub CopyRefused : {T : Type 0} → Config → ℕ → ℕ → Option ℕ → Meaning → Meaning → Result T No → Type 0
CopyRefused c v source None old new r = Unit {0}
CopyRefused c v source (Some p) old new (Ok x) = IsTrue new.down → ⊥
CopyRefused c v source (Some p) old new (Err (refusal.Device disk)) = (PlexBlamed c v source old new ⊎ PlexBlamed c v p old new) × Rose (old.disk_faults disk) (new.disk_faults disk) × (IsTrue new.down → ⊥)
CopyRefused c v source (Some p) old new (Err refusal.Down) = IsTrue new.down
CopyRefused c v source (Some p) old new (Err other) = ⊥
