-- Volumes that are flushed before a group is deported.
use Rattle.std.specs.Prelude.{◌≡◌, ◌⊎◌, ℕ, ◌<◌, true, false, IsTrue, Result, Ok, Err}
use Rattle.vx_disk.specs.Counts.{Rose}
use Rattle.vx_disk.specs.Shelf.{Meaning, Nothing}
use Rattle.vx_disk.specs.declared.shelf.ShelfError.{ShelfError}
use Rattle.vx_disk.specs.declared.shelf.ShelfError.TheVariants.{Fault, Down}
use Rattle.vx_config.specs.Table.{greatest}
use Rattle.vx_config.specs.declared.config.Config.{Config}
use Rattle.vx_volume.specs.Plexes.{active}
use Rattle.vx_volume.specs.Volumes.{PlexFlushed}
use Rattle.vx_kept.specs.Cleans.{is_unsure}
use Rattle.vx_kept.specs.Keeping.{Acts, SameShape, Sees}
use Rattle.vx_group.specs.Copying.{NoMember}
use Rattle.vx_group.specs.Loses.{LosesPlexes, SameParts}
use Rattle.vx_group.specs.Stands.{InnerStands}
use Rattle.vx_group.specs.declared.inner.Inner.{Inner}

-- the count of some disk rose
abbrev pub AnyFailed : Meaning → Meaning → Type 0
AnyFailed old new = (disk : ℕ) × Rose (old.disk_faults disk) (new.disk_faults disk)

-- Such volumes were flushed: of each that is not unsure a crash leaves in each plex that is ACTIVE what this plex read. No block of a plex was
-- written, and no plex is ACTIVE that was not. Plexes were detached, and volumes became unsure, only where a disk failed. At each moment an image has
-- a configuration of the kind of `by`.
pub record QuiescesBy (by : Config) (c d : Inner) (which : ℕ → Type 0) (old new : Meaning) : Type 0 where
  pub acts : Acts Nothing (Sees by NoMember old) old new
  pub shape : SameShape d.config c.config
  pub on : (v p : ℕ) → IsTrue (active d.config v p) → IsTrue (active c.config v p)
  pub volumes : (d.config.volumes ≡ c.config.volumes) ⊎ AnyFailed old new
  pub unsure : (d.unsure ≡ c.unsure) ⊎ AnyFailed old new
  pub loses : LosesPlexes c.config d.config old new
  pub sure : (v : ℕ) → is_unsure d.unsure v ≡ false → is_unsure c.unsure v ≡ false
  pub faults : d.faults ≡ c.faults
  pub flushed : (v p : ℕ) → which v → is_unsure d.unsure v ≡ false → IsTrue (active d.config v p) → PlexFlushed c.config v p old new

-- the same of a group that goes by its own configuration
abbrev pub Quiesces : Inner → Inner → (ℕ → Type 0) → Meaning → Meaning → Type 0
Quiesces c d which old new = QuiescesBy c.config c d which old new

-- no volume
abbrev pub NoVolume : ℕ → Type 0
NoVolume v = ⊥

-- and the group is ready for a commit
pub record Quiesced (c d : Inner) (which : ℕ → Type 0) (old new : Meaning) : Type 0 where
  pub stands : InnerStands d new
  pub quiesces : Quiesces c d which old new
  pub parts : SameParts c.config d.config
  pub trust : c.committed ≡ true → d.committed ≡ true
  pub settled : d.unsettled ≡ false
  pub up : IsTrue new.down → ⊥
  pub more : d.config.serial < greatest

-- The group stands. Plexes were detached, and volumes became unsure, only where a disk failed.
pub record GivenBack (c d : Inner) (old new : Meaning) : Type 0 where
  pub stands : InnerStands d new
  pub parts : SameParts c.config d.config
  pub quiesces : Quiesces c d NoVolume old new

-- how the flushes end
abbrev pub QuiesceEnds : {T E : Type 0} → (ℕ → Type 0) → Inner → Inner → Meaning → Meaning → Result T E → Type 0
QuiesceEnds which c d old new (Ok x) = Quiesced c d which old new
QuiesceEnds which c d old new (Err stop) = GivenBack c d old new

-- a fault of one volume stops no deport
abbrev pub GoesOnBy : {T : Type 0} → ShelfError → Result T ShelfError → Type 0
GoesOnBy (Fault disk) (Ok x) = Unit {0}
GoesOnBy (Fault disk) (Err error) = ⊥
GoesOnBy Down (Ok x) = ⊥
GoesOnBy Down (Err (Fault disk)) = ⊥
GoesOnBy Down (Err Down) = Unit {0}
