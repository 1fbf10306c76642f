-- What the calls of a group make of it, where a plex may be held back.
use Rattle.std.specs.Prelude.{◌≡◌, ◌⊎◌, ℕ, ◌<◌, true, IsTrue, Option, Some, None, length, Result, Ok, Err}
use Rattle.vx_disk.specs.Causes.{DeviceCause}
use Rattle.vx_disk.specs.Shelf.{Goes, Meaning, Nothing}
use Rattle.vx_model.specs.declared.errors.Stop.{Stop}
use Rattle.vx_model.specs.declared.errors.Stop.TheVariants.{No as Refused, OutOfMemory}
use Rattle.vx_model.specs.declared.no.Counted.TheVariants.{Number as Numbers}
use Rattle.vx_model.specs.declared.no.No.TheVariants.{Limit, Size}
use Rattle.vx_config.specs.Table.{greatest}
use Rattle.vx_copyio.specs.Labelling.{HasSmall}
use Rattle.vx_fmr.specs.Missed.{Missed}
use Rattle.vx_volume.specs.Plexes.{active}
use Rattle.vx_kept.specs.Commits.{Member}
use Rattle.vx_kept.specs.Groups.{group_meaning}
use Rattle.vx_kept.specs.Keeping.{Acts, Extends, SameShape, Sees}
use Rattle.vx_group.specs.Attaches.{AnyImage, OnMissed}
use Rattle.vx_group.specs.Copying.{NoMember}
use Rattle.vx_group.specs.Creates.{IsNewGroup, SameUnits}
use Rattle.vx_group.specs.Deports.{DeportedBy}
use Rattle.vx_group.specs.Holding.{GroupStands, config_by, wide}
use Rattle.vx_group.specs.Imports.{ImportStops, Resumed}
use Rattle.vx_group.specs.Loses.{SameParts}
use Rattle.vx_group.specs.Quiesces.{NoVolume, QuiescesBy}
use Rattle.vx_group.specs.Resumes.{CanImportBehind}
use Rattle.vx_group.specs.Stands.{volume_faults, inner_meaning}
use Rattle.vx_group.specs.declared.group_core.GroupCore.{GroupCore}
use Rattle.vx_group.specs.declared.group_core.Held.{Held}

-- the disks of which one suffices for an import to go by the group; none, where a plex is held back
abbrev pub members_by : Option Held → ℕ → Meaning → ℕ → Type 0
members_by None good m = Member good m
members_by (Some h) good m = NoMember

-- Commits were made or refused: no block of a plex was touched, and no plex is ACTIVE that was not.
pub record GroupNarrows (c d : GroupCore) (old new : Meaning) : Type 0 where
  pub acts : Acts Nothing (Sees (wide c).config (members_by c.held c.inner.good old) old) old new
  pub shape : SameShape d.inner.config c.inner.config
  pub on : (v p : ℕ) → IsTrue (active d.inner.config v p) → IsTrue (active c.inner.config v p)
  pub wide_on : (v p : ℕ) → IsTrue (active (wide d).config v p) → IsTrue (active (wide c).config v p)
  pub faults : d.inner.faults ≡ c.inner.faults
  pub unsure : d.inner.unsure ≡ c.inner.unsure

-- Each volume reads as before, at every moment and in every image; only blocks of this plex in regions that it has missed were written beside
-- those of the configuration, and no other plex changed its state.
pub record GroupAttaches (v p : ℕ) (f : Option Missed) (c d : GroupCore) (old new : Meaning) : Type 0 where
  pub goes : Goes Nothing (inner_meaning (wide c) old) (inner_meaning (wide d) new)
  pub acts : Acts (OnMissed c.inner.config v p f) AnyImage old new
  pub shape : SameShape d.inner.config c.inner.config
  pub others : (w q : ℕ) → (w ≡ v → q ≡ p → ⊥) → active d.inner.config w q ≡ active c.inner.config w q
  pub parts : SameParts c.inner.config d.inner.config
  pub faults : d.inner.faults ≡ c.inner.faults
  pub unsure : d.inner.unsure ≡ c.inner.unsure

-- The volumes that stood read as before, and their images are those of before; so are their plexes, and what is counted of them.
pub record GroupStays (c d : GroupCore) (old new : Meaning) : Type 0 where
  pub goes : Goes Nothing (inner_meaning (wide c) old) (group_meaning (config_by d.held c.inner.config) (volume_faults d.inner.faults) new)
  pub shape : Extends d.inner.config c.inner.config
  pub on : (v p : ℕ) → v < length c.inner.config.volumes → active d.inner.config v p ≡ active c.inner.config v p
  pub faults : d.inner.faults ≡ c.inner.faults
  pub unsure : d.inner.unsure ≡ c.inner.unsure

-- The group stands. Plexes were detached, and volumes became unsure, only where a disk failed.
pub record GroupBack (c d : GroupCore) (old new : Meaning) : Type 0 where
  pub stands : GroupStands d new
  pub parts : SameParts c.inner.config d.inner.config
  pub quiesces : QuiescesBy (wide c).config c.inner d.inner NoVolume old new

-- how a deport ends, by the parts of the group
abbrev pub GroupCloses : {T E : Type 0} → GroupCore → GroupCore → Meaning → Meaning → Result T E → Type 0
GroupCloses c d old new (Ok x) = DeportedBy (wide c).config c.inner old new
GroupCloses c d old new (Err stop) = GroupBack c d old new

-- The shelf is handed out, or the group given back. A refusal comes for a device alone, where its serials suffice.
abbrev pub GroupDeported : {S G : Type 0} → GroupCore → Meaning → (S → Meaning) → (G → GroupCore) → (G → S) → Result S (G × Stop) → Type 0
GroupDeported c old meaning core shelf (Ok s) = DeportedBy (wide c).config c.inner old (meaning s)
GroupDeported c old meaning core shelf (Err (g, stop)) = GroupBack c (core g) old (meaning (shelf g))

-- To its volumes the group that a refusal gives back is the one that it was: no image is left that was not, and no read gives another value.
abbrev pub GivesBack : {S G : Type 0} → GroupCore → Meaning → (S → Meaning) → (G → GroupCore) → (G → S) → Result S (G × Stop) → Type 0
GivesBack c old meaning core shelf (Ok s) = Unit {0}
GivesBack c old meaning core shelf (Err (g, stop)) = Goes Nothing (inner_meaning (wide c) old) (inner_meaning (wide (core g)) (meaning (shelf g)))

-- Where the newest configuration was committed before a refusal that gives the group back, imports agree behind it.
abbrev pub BackAgrees : {S G : Type 0} → GroupCore → (G → GroupCore) → Result S (G × Stop) → Type 0
BackAgrees c core (Ok s) = Unit {0}
BackAgrees c core (Err (g, stop)) = c.inner.committed ≡ true → (core g).inner.agreed ≡ true

-- refused for want of serials, and nothing has changed
abbrev pub IsFull : {S G : Type 0} → GroupCore → S → (G → GroupCore) → (G → S) → Result S (G × Stop) → Type 0
IsFull c s core shelf (Ok x) = ⊥
IsFull c s core shelf (Err (g, stop)) = (stop ≡ Refused (Limit Numbers greatest)) × (core g ≡ c) × (shelf g ≡ s)

-- what is answered where a group is made, of which no plex is held back; else the shelf is handed back
abbrev pub GroupCreated : {S G : Type 0} → ℕ → Meaning → (S → Meaning) → (G → GroupCore) → (G → S) → Result G (S × Stop) → Type 0
GroupCreated site old meaning core shelf (Ok g) = IsNewGroup site old (core g).inner (meaning (shelf g)) × ((core g).held ≡ None)
GroupCreated site old meaning core shelf (Err (s, Refused why)) = (HasSmall old × (why ≡ Size)) ⊎ DeviceCause old (meaning s) why
GroupCreated site old meaning core shelf (Err (s, OutOfMemory)) = Unit {0}

-- whatever is answered, the shelf has the units that it had
abbrev pub KeepsUnits : {S G : Type 0} → Meaning → (S → Meaning) → (G → S) → Result G (S × Stop) → Type 0
KeepsUnits old meaning shelf (Ok g) = SameUnits old (meaning (shelf g))
KeepsUnits old meaning shelf (Err (s, stop)) = SameUnits old (meaning s)

-- how an import ends: with a group of which no plex is held back; else the shelf is handed back
abbrev pub GroupImported : {S G : Type 0} → Meaning → (S → Meaning) → (G → GroupCore) → (G → S) → Result G (S × Stop) → Type 0
GroupImported old meaning core shelf (Ok g) = Resumed old (core g).inner (meaning (shelf g)) × ((core g).held ≡ None)
GroupImported old meaning core shelf (Err (s, stop)) = ImportStops old (meaning s) stop

-- what a refused import hands back may be imported behind any crash
abbrev pub ImportsAgain : {S G : Type 0} → (S → Meaning) → Result G (S × Stop) → Type 0
ImportsAgain meaning (Ok g) = Unit {0}
ImportsAgain meaning (Err e) = CanImportBehind (meaning e.0)
