-- A plex that is attached.
use Rattle.std.specs.Prelude.{◌≡◌, ◌≢◌, ◌⊎◌, ℕ, ◌-◌, ◌/◌, ◌<◌, false, nat_le, nat_lt, if◌then◌else◌, IsTrue, Option, Some, None, List, Result, Ok, Err, length}
use Rattle.vx_disk.specs.Counts.{Rose}
use Rattle.vx_disk.specs.Shelf.{Goes, Image, Meaning, Nothing}
use Rattle.vx_disk.specs.declared.shelf.ShelfError.{ShelfError}
use Rattle.vx_disk.specs.declared.shelf.ShelfError.TheVariants.{Fault, Down}
use Rattle.vx_model.specs.Sizes.{regions_of}
use Rattle.vx_model.specs.declared.limits.TheConstants.{REGION}
use Rattle.vx_model.specs.declared.no.Counted.TheVariants.{Number as Numbers}
use Rattle.vx_model.specs.declared.no.Named.TheVariants.{Number}
use Rattle.vx_model.specs.declared.no.No.{No}
use Rattle.vx_model.specs.declared.no.No.TheVariants.{Limit, Unknown}
use Rattle.vx_model.specs.declared.site.PlexState.TheVariants.{Active}
use Rattle.vx_config.specs.Changes.{stated}
use Rattle.vx_config.specs.Checks.{blocks_of, plexes_of}
use Rattle.vx_config.specs.Table.{greatest}
use Rattle.vx_config.specs.declared.config.Config.{Config}
use Rattle.vx_volume.specs.Copies.{OnCopy}
use Rattle.vx_volume.specs.Plexes.{active}
use Rattle.vx_volume.specs.Volumes.{PlexBlamed}
use Rattle.vx_fmr.specs.Missed.{Missed}
use Rattle.vx_resync.specs.Gathers.{MissesOnly}
use Rattle.vx_resync.specs.Picks.{FmrReaches, missed_or, picked_below}
use Rattle.vx_kept.specs.Commits.{IsCommitted}
use Rattle.vx_kept.specs.Finds.{FindsFrom, NoConfiguration}
use Rattle.vx_kept.specs.Keeping.{Acts, SameShape}
use Rattle.vx_group.specs.Dets.{margin}
use Rattle.vx_group.specs.GivesUp.{NoCommit}
use Rattle.vx_group.specs.Loses.{SameParts}
use Rattle.vx_group.specs.Stands.{InnerStands, inner_meaning}
use Rattle.vx_group.specs.declared.inner.Inner.{Inner}

-- The first refusal that holds: no such volume, no such plex, too few serials.
abbrev pub att_refusal : Config → ℕ → ℕ → Option No
att_refusal c v p =
    if nat_le (length c.volumes) v then Some (Unknown (Number v)) else
    (if nat_le (plexes_of c v) p then Some (Unknown (Number p)) else
    (if nat_lt (greatest - margin) c.serial then Some (Limit Numbers greatest) else None))

-- there is such a plex, and a serial is left
pub record MayAttach (c : Config) (v p : ℕ) : Type 0 where
  pub volume : v < length c.volumes
  pub plex : p < plexes_of c v
  pub more : c.serial < greatest

-- with a plex ACTIVE, of which the next attach has not to copy all regions
abbrev pub attached : ℕ → ℕ → Config → Config
attached v p c = stated v p Active false c

-- the regions of a volume; an attach copies all of them where there is no map
abbrev pub region_count : Config → ℕ → ℕ
region_count c v = regions_of (blocks_of c.volumes v)

-- how many regions an attach copies: those that the plex has missed by its map, or all where there is none
abbrev pub missed_regions : Config → ℕ → ℕ → Option Missed → ℕ
missed_regions c v p f = picked_below (missed_or p f) (region_count c v)

-- What a map knows of a plex: it has a bit for each region of the volume, and in each region that it has not the plex reads what each plex that is ACTIVE
-- reads.
pub record KnowsMissed (c : Config) (v p : ℕ) (f : Option Missed) (m : Meaning) : Type 0 where
  pub reach : FmrReaches (region_count c v) p f
  pub each : (q : ℕ) → IsTrue (active c v q) → MissesOnly c v q p (missed_or p f) m

-- any value at a place of this plex in a region that it has missed
pub record OnMissed (c : Config) (v p : ℕ) (f : Option Missed) (u b : ℕ) (x : List ℕ) : Type 0 where
  pub put : OnCopy c v p u b x
  pub missed : IsTrue (missed_or p f (put.number / REGION))

-- whatever an image has
abbrev pub AnyImage : Image → Type 0
AnyImage i = Unit {0}

-- Each volume reads as before, at every moment and in every image; only blocks of this plex in regions that it has missed were written beside
-- those of the configuration, and no other plex changed its state.
pub record Attaches (v p : ℕ) (f : Option Missed) (c d : Inner) (old new : Meaning) : Type 0 where
  pub goes : Goes Nothing (inner_meaning c old) (inner_meaning d new)
  pub acts : Acts (OnMissed c.config v p f) AnyImage old new
  pub shape : SameShape d.config c.config
  pub others : (w q : ℕ) → (w ≡ v → q ≡ p → ⊥) → active d.config w q ≡ active c.config w q
  pub parts : SameParts c.config d.config
  pub faults : d.faults ≡ c.faults
  pub unsure : d.unsure ≡ c.unsure

-- the plex is ACTIVE in memory, where it was copied
abbrev pub Opens : {T E : Type 0} → ℕ → ℕ → Config → Result T E → Type 0
Opens v p d (Ok x) = IsTrue (active d v p)
Opens v p d (Err error) = active d v p ≡ false

-- A copy from one plex of the volume, if it is ACTIVE, to another one: a fault comes only where a call on a disk of one of the two failed, or
-- where the source is not ACTIVE, and then it names `device`.
abbrev pub CopyTried : {T : Type 0} → Config → ℕ → ℕ → ℕ → ℕ → Meaning → Meaning → Result T ShelfError → Type 0
CopyTried c v source p device old new (Ok x) = IsTrue new.down → ⊥
CopyTried c v source p device old new (Err (Fault disk)) =
    (((active c v source ≡ false) × (disk ≡ device)) ⊎ ((PlexBlamed c v source old new ⊎ PlexBlamed c v p old new) × Rose (old.disk_faults disk) (new.disk_faults disk))) × (IsTrue new.down → ⊥)
CopyTried c v source p device old new (Err Down) = IsTrue new.down

-- Each plex of the volume that is ACTIVE and below n was tried as the source of a copy, and the copy failed.
pub record SourcesTried (core : Inner) (v p : ℕ) (f : Option Missed) (n device : ℕ) (old new : Meaning) : Type 0 where
  pub stands : InnerStands core new
  pub attaches : Attaches v p f core core old new
  pub less : FindsFrom NoConfiguration old new
  pub up : IsTrue new.down → ⊥
  pub tried : (q : ℕ) → q < n → IsTrue (active core.config v q) → (PlexBlamed core.config v q old new ⊎ PlexBlamed core.config v p old new) × Rose (old.disk_faults device) (new.disk_faults device)

-- a copy fails with a fault only where a call on a disk of the plex failed, or one on a disk of each plex that is ACTIVE
abbrev pub NoSource : {T : Type 0} → Config → ℕ → ℕ → Meaning → Meaning → Result T ShelfError → Type 0
NoSource c v p old new (Ok x) = Unit {0}
NoSource c v p old new (Err (Fault disk)) = (q : ℕ) → IsTrue (active c v q) → PlexBlamed c v q old new ⊎ PlexBlamed c v p old new
NoSource c v p old new (Err Down) = Unit {0}

-- the plex is ACTIVE, and each image that a crash may leave has this configuration
pub record IsAttached (v p : ℕ) (d : Config) (m : Meaning) : Type 0 where
  pub is_on : IsTrue (active d v p)
  pub committed : IsCommitted d m

-- a plex of the volume is ACTIVE beside this one
pub record HasOther (c : Config) (v p : ℕ) : Type 0 where
  pub plex : ℕ
  pub is_on : IsTrue (active c v plex)
  pub apart : plex ≢ p

-- How an attach ends: with the plex ACTIVE in each image, or not ACTIVE; where both the commit that makes it ACTIVE and the one that takes this back are
-- refused, it has the content of the volume, and may be ACTIVE until it is held back.
abbrev pub AttachEnds : {T E : Type 0} → ℕ → ℕ → Inner → Meaning → Result T E → Type 0
AttachEnds v p d m (Ok x) = IsAttached v p d.config m
AttachEnds v p d m (Err error) = (active d.config v p ≡ false) ⊎ NoCommit d m

-- the same of the whole attach: ACTIVE in each image, or not ACTIVE
abbrev pub GroupAttachEnds : {T E : Type 0} → ℕ → ℕ → Config → Meaning → Result T E → Type 0
GroupAttachEnds v p d m (Ok x) = IsAttached v p d m
GroupAttachEnds v p d m (Err error) = active d v p ≡ false
