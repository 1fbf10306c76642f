-- Volumes that stopped uncleanly, of which one plex was copied to the others.
use Rattle.std.specs.Prelude.{◌≡◌, ℕ, ◌/◌, ◌<◌, ◌≤◌, Bool, true, false, IsTrue, Option, Some, None, List, length, slice_get, Result, Ok, Err}
use Rattle.vx_disk.specs.Shelf.{Goes, Meaning, Nothing}
use Rattle.vx_config.specs.Checks.{blocks_of}
use Rattle.vx_config.specs.declared.config.Config.{Config}
use Rattle.vx_drl.specs.Dirty.{Dirty}
use Rattle.vx_layout.specs.Places.{place}
use Rattle.vx_logs.specs.declared.logs.Logs.{Logs}
use Rattle.vx_model.specs.Sizes.{regions_of}
use Rattle.vx_model.specs.declared.limits.TheConstants.{REGION}
use Rattle.vx_resync.specs.Picks.{DrlReaches, marked_or}
use Rattle.vx_volume.specs.Plexes.{Inside, active}
use Rattle.vx_kept.specs.Cleans.{is_unsure}
use Rattle.vx_kept.specs.Keeping.{Acts, SameShape}
use Rattle.vx_group.specs.Attaches.{AnyImage}
use Rattle.vx_group.specs.Copying.{SpentBy}
use Rattle.vx_group.specs.Resumes.{IsMended, source_at}
use Rattle.vx_group.specs.Stands.{InnerStands, inner_meaning}
use Rattle.vx_group.specs.declared.inner.Inner.{Inner}

-- the dirty region log of a volume, where there is one in memory
abbrev pub drl_or : Option Logs → Option Dirty
drl_or None = None
drl_or (Some l) = l.drl

abbrev pub drl_at : List Logs → ℕ → Option Dirty
drl_at logs v = drl_or (slice_get logs v)

-- plexes of the volume that are ACTIVE read the same in each block, of which the region is not picked
pub record AgreeElsewhere (c : Config) (v : ℕ) (picked : ℕ → Bool) (m : Meaning) : Type 0 where
  pub same : (p q k : ℕ) (x y : List ℕ) → Inside c v k → picked (k / REGION) ≡ false → IsTrue (active c v p) → IsTrue (active c v q) → m.reads (place c v p k).0 (place c v p k).1 x → m.reads (place c v q k).0 (place c v q k).1 y → x ≡ y

-- What logs tell of the volumes that are marked: each has a bit for each region of its volume, and where it has a region not, the plexes that are ACTIVE
-- read the same.
pub record MarksTell (c : Config) (flags : List Bool) (logs : List Logs) (m : Meaning) : Type 0 where
  pub reach : (v : ℕ) → v < length c.volumes → DrlReaches (regions_of (blocks_of c.volumes v)) (drl_at logs v)
  pub agree : (v : ℕ) → v < length c.volumes → is_unsure flags v ≡ true → AgreeElsewhere c v (marked_or (drl_at logs v)) m

-- a block of a volume that is marked, of a region that its log has, on a plex that is ACTIVE, whatever it gets
pub record OnMarked (c : Config) (flags : List Bool) (logs : List Logs) (u b : ℕ) (x : List ℕ) : Type 0 where
  pub volume : ℕ
  pub plex : ℕ
  pub number : ℕ
  pub stopped : is_unsure flags volume ≡ true
  pub marked : IsTrue (marked_or (drl_at logs volume) (number / REGION))
  pub inside : Inside c volume number
  pub is_on : IsTrue (active c volume plex)
  pub at : place c volume plex number ≡ (u, b)

-- the group goes on as it was, and no plex is ACTIVE that was not
pub record GroupGoesOn (core d : Inner) (old new : Meaning) : Type 0 where
  pub stands : InnerStands d new
  pub shape : SameShape d.config core.config
  pub on : (w p : ℕ) → IsTrue (active d.config w p) → IsTrue (active core.config w p)
  pub faults : d.faults ≡ core.faults
  pub unsure : d.unsure ≡ core.unsure
  pub goes : Goes Nothing (inner_meaning core old) (inner_meaning d new)
  pub unit_faults : (u : ℕ) → old.faults u ≤ new.faults u
  pub disk_faults : (u : ℕ) → old.disk_faults u ≤ new.disk_faults u

-- And of the volumes below n those that are marked were made alike; the others read as they did, and have the plexes that they had. A newest
-- configuration that was committed still is.
pub record Mending (core : Inner) (flags : List Bool) (sources : List ℕ) (logs : List Logs) (n : ℕ) (d : Inner) (old new : Meaning) : Type 0 where
  pub on : GroupGoesOn core d old new
  pub spent : SpentBy core.config d.config old new
  pub only : Acts (OnMarked core.config flags logs) AnyImage old new
  pub settled : d.unsettled ≡ false
  pub trust : core.committed ≡ true → d.committed ≡ true
  pub up : IsTrue new.down → ⊥
  pub mended : (v : ℕ) → v < n → is_unsure flags v ≡ true → IsMended core.config v (source_at sources v) d old new
  pub rest : (w p k : ℕ) (x : List ℕ) → n ≤ w → Inside core.config w k → IsTrue (active d.config w p) → new.reads (place core.config w p k).0 (place core.config w p k).1 x
      → old.reads (place core.config w p k).0 (place core.config w p k).1 x
  pub still : (w p : ℕ) → n ≤ w → active d.config w p ≡ active core.config w p

abbrev pub Mended : {T E : Type 0} → List Bool → List ℕ → List Logs → Inner → Inner → Meaning → Meaning → Result T E → Type 0
Mended flags sources logs core d old new (Ok x) = Mending core flags sources logs (length core.config.volumes) d old new
Mended flags sources logs core d old new (Err error) = GroupGoesOn core d old new
