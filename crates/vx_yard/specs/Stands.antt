-- The disk sets of a yard: whether they tell, and the counts of their faults.
use Rattle.std.specs.Prelude.{◌≡◌, ℕ, ◌+◌, ◌≤◌, ◌==◌, ◌&&◌, min, List, count_by, Option, Some, None, slice_get}
use Rattle.vx_disk.specs.declared.shelf.Shelf.{Ghosts}
use Rattle.vx_diskset.specs.declared.disk_set.DiskSet.{DiskSet}
use Rattle.vx_diskset.specs.Stands.{IsRackTold, faults_at}
use Rattle.vx_events.specs.Fails.{Fails}

module _ {R : Type 0} {g : Ghosts R} where
  abbrev pub fault_count : Option (DiskSet R g) → ℕ → ℕ
  fault_count None d = 0
  fault_count (Some disk_set) d = faults_at disk_set d

  -- the count of a disk of a site
  abbrev pub site_faults : List (DiskSet R g) → ℕ → ℕ → ℕ
  site_faults disk_sets s d = fault_count (slice_get disk_sets s) d

  pub record AreTold (disk_sets : List (DiskSet R g)) : Type 0 where
    pub each : (s : ℕ) (e : DiskSet R g) → slice_get disk_sets s ≡ Some e → IsRackTold e

-- how often a disk of a site is named
abbrev pub times : Fails → ℕ → ℕ → ℕ
times fails s d = count_by (λ f. (f.0 == s) && (f.1 == d)) fails

-- a count rose by so much, or stands at its greatest value
abbrev pub RoseBy : ℕ → ℕ → ℕ → Type 0
RoseBy n before now = min (before + n) 0xffff_ffff_ffff_ffff ≤ now

-- Each count of a disk of a site rose by as much as the list names it, or stands at its greatest value.
pub record RoseAll (fails : Fails) (old new : ℕ → ℕ → ℕ) : Type 0 where
  pub each : (s d : ℕ) → RoseBy (times fails s d) (old s d) (new s d)
