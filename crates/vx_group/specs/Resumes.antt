-- What an import takes up, and the group that it gives.
use Rattle.std.specs.Prelude.{◌≡◌, ◌⊎◌, ℕ, ◌<◌, ◌≤◌, ◌-◌, ◌^◌, Bool, true, false, IsTrue, not, ◌&&◌, if◌then◌else◌, Option, Some, None, List, length, slice_get, slice_index_or, Result, Ok, Err}
use Rattle.std.specs.List.{list_any}
use Rattle.vx_disk.specs.Blocks.{bit_at}
use Rattle.vx_disk.specs.Counts.{Rose}
use Rattle.vx_disk.specs.Shelf.{Each, Image, Meaning}
use Rattle.vx_model.specs.declared.errors.Stop.{Stop}
use Rattle.vx_model.specs.declared.errors.Stop.TheVariants.{No as Refused, OutOfMemory}
use Rattle.vx_model.specs.declared.limits.TheConstants.{MOST_VOLUMES}
use Rattle.vx_model.specs.declared.no.Counted.TheVariants.{Number as Numbers}
use Rattle.vx_model.specs.declared.no.No.{No}
use Rattle.vx_model.specs.declared.no.No.TheVariants as refusal
use Rattle.vx_config.specs.Checks.{blocks_of, is_live, is_sound, plexes_of}
use Rattle.vx_config.specs.Table.{greatest}
use Rattle.vx_config.specs.declared.config.Config.{Config}
use Rattle.vx_config.specs.declared.entry.PlexEntry.{PlexEntry}
use Rattle.vx_config.specs.declared.entry.VolumeEntry.{VolumeEntry}
use Rattle.vx_copyfmt.specs.Imports.{Found}
use Rattle.vx_copies.specs.Answers.{Imported, good_set, returned}
use Rattle.vx_copies.specs.Marks.{HasGood, NoneGood}
use Rattle.vx_layout.specs.Places.{place}
use Rattle.vx_volume.specs.Plexes.{Inside, active}
use Rattle.vx_kept.specs.Choice.{first_where}
use Rattle.vx_kept.specs.Cleans.{is_unsure}
use Rattle.vx_kept.specs.Groups.{found, found_by}
use Rattle.vx_kept.specs.Keeping.{Base}
use Rattle.vx_kept.specs.Trusts.{is_plain}
use Rattle.vx_kept.specs.Opens.{OpenVolumes}
use Rattle.vx_group.specs.Dets.{any_below, margin}
use Rattle.vx_group.specs.Stands.{InnerStands, volume_faults, inner_meaning}
use Rattle.vx_group.specs.declared.inner.Inner.{Inner}
use Rattle.vx_group.specs.declared.taking.Plan.{Plan}

-- ---- what a configuration says

-- a volume stopped uncleanly: one of its plexes is ACTIVE
unfoldable pub stopped : Config → ℕ → Bool
stopped c v = any_below (active c v) (plexes_of c v)

-- none of its subdisks is on a disk outside of the set
abbrev pub sits_in : ℕ → PlexEntry → Bool
sits_in good p = not (list_any (λ s. not (bit_at good s.disk)) p.subdisks)

abbrev pub takes_in : ℕ → PlexEntry → Bool
takes_in good p = is_live p && sits_in good p

abbrev pub first_in : ℕ → List PlexEntry → ℕ
first_in good plexes = if list_any (takes_in good) plexes then first_where (takes_in good) plexes else first_where is_live plexes

abbrev pub source_or : ℕ → Option VolumeEntry → ℕ
source_or good None = 0
source_or good (Some v) = first_in good v.plexes

-- The plex that an import goes by: the first that takes part and is on disks of the set alone, which were held as good; where there is none,
-- the first that takes part.
unfoldable pub source_of : ℕ → Config → ℕ → ℕ
source_of good c v = source_or good (slice_get c.volumes v)

-- of each volume the number in an array
abbrev pub source_at : List ℕ → ℕ → ℕ
source_at sources v = slice_index_or sources v 0

-- ---- what may be taken up

-- Where an image has a configuration, each disk has a label and a greater header that counts, and no header that a crash may leave is above
-- it. Whichever disks can be read, an import over an image finds the one of every image, or is
-- refused with 8 or 9.
pub record CanImport (m : Meaning) : Type 0 where
  pub base : (i : Image) (x : Config) → Each m.leaves i → found m i ≡ Found x → Base x m
  pub one : (i j : Image) (readable : ℕ → Bool) (x : Config) → Each m.leaves i → Each m.leaves j → found_by m readable i ≡ Found x → found m j ≡ Found x
  pub plain : (i : Image) (readable : ℕ → Bool) (x : Config) → Each m.leaves i → found m i ≡ Found x → is_plain (found_by m readable i) ≡ true

-- a crash leaves one value of each block, as behind a crash
pub record AtRest (m : Meaning) : Type 0 where
  pub one : (u b : ℕ) (v w : List ℕ) → m.leaves u b v → m.leaves u b w → v ≡ w

-- the disks behind a crash that left this image
abbrev pub left_at : Meaning → Image → Meaning
left_at m i = record {
  units = m.units;
  size = m.size;
  tells = m.tells;
  reads = λ u b v. v ≡ i u b;
  leaves = λ u b v. v ≡ i u b;
  now = m.now;
  moment = m.moment;
  left_since = m.left_since;
  faults = m.faults;
  disk_faults = m.disk_faults;
  down = m.down;
  armed = m.armed;
  disks = m.disks;
}

-- whatever image a crash leaves may be imported
pub record CanImportBehind (m : Meaning) : Type 0 where
  pub each : (i : Image) → Each m.leaves i → CanImport (left_at m i)

-- ---- what is given

-- the configuration that was found, as reads of the disks that could be read gave it; and with each plex that is CLEAN in the state ACTIVE
pub record TakenUp (old new : Meaning) (found opened : Config) : Type 0 where
  pub readable : ℕ → Bool
  pub image : Image
  pub blamed : (u : ℕ) → u < old.units → readable u ≡ false → Rose (old.faults u) (new.faults u)
  pub read : IsTrue old.tells → Each old.reads image
  pub is : found_by old readable image ≡ Found found
  pub opens : OpenVolumes 0 (returned readable found) opened

-- a configuration that is not taken up: too few serials are left, or no disk of the set is held as good
abbrev pub RefusesPlan : Config → ℕ → Option No → Type 0
RefusesPlan c good None = (c.serial ≤ greatest - margin) × HasGood c.disks good
RefusesPlan c good (Some why) = ((greatest - margin < c.serial) × (why ≡ refusal.Limit Numbers greatest)) ⊎ (NoneGood c.disks (length c.disks) good × (why ≡ refusal.NoConfig))

-- no count of a volume, and none marked
pub record IsFresh (core : Inner) : Type 0 where
  pub faults : (v : ℕ) → volume_faults core.faults v ≡ 0
  pub sure : (v : ℕ) → is_unsure core.unsure v ≡ false

-- What is made of a configuration: its plexes that are CLEAN are ACTIVE, which of its volumes stopped uncleanly, and which plex of each is gone by.
pub record IsPlan (c : Config) (set : ℕ) (plan : Plan) : Type 0 where
  pub serial : c.serial ≤ greatest - margin
  pub few : length c.volumes ≤ MOST_VOLUMES
  pub some : HasGood c.disks set
  pub small : (v : ℕ) → blocks_of c.volumes v < 2 ^ 64
  pub opens : OpenVolumes 0 c plan.core.config
  pub sound : IsTrue (is_sound plan.core.config)
  pub good : plan.core.good ≡ set
  pub unsettled : plan.core.unsettled ≡ true
  pub committed : plan.core.committed ≡ true
  pub agreed : plan.core.agreed ≡ true
  pub fresh : IsFresh plan.core
  pub stopped : (v : ℕ) → v < length c.volumes → is_unsure plan.stopped v ≡ stopped c v
  pub sources : (v : ℕ) → v < length c.volumes → source_at plan.sources v ≡ source_of set c v

abbrev pub Planned : Config → ℕ → Result Plan Stop → Type 0
Planned c good (Ok plan) = IsPlan c good plan
Planned c good (Err (Refused why)) = RefusesPlan c good (Some why)
Planned c good (Err OutOfMemory) = Unit {0}

-- the group of a plan stands on the disks that it was read from
pub record IsTaken (old new : Meaning) (plan : Plan) : Type 0 where
  pub config : Config
  pub up : TakenUp old new config plan.core.config
  pub made : IsPlan (returned up.readable config) (good_set config.disks) plan
  pub stands : InnerStands plan.core new

-- a configuration was found that is not taken up
pub record NotTaken (old new : Meaning) (why : No) : Type 0 where
  pub config : Config
  pub readable : ℕ → Bool
  pub image : Image
  pub blamed : (u : ℕ) → u < old.units → readable u ≡ false → Rose (old.faults u) (new.faults u)
  pub read : IsTrue old.tells → Each old.reads image
  pub is : found_by old readable image ≡ Found config
  pub refuses : RefusesPlan (returned readable config) (good_set config.disks) (Some why)

abbrev pub TakesPlan : Meaning → Meaning → Result Plan Stop → Type 0
TakesPlan old new (Ok plan) = IsTaken old new plan
TakesPlan old new (Err (Refused why)) = Imported old new (Err (Refused why)) ⊎ NotTaken old new why
TakesPlan old new (Err OutOfMemory) = Unit {0}

-- each block of the volume has one value on each plex that is ACTIVE, which a read of this plex gave
pub record IsMended (opened : Config) (v source : ℕ) (core : Inner) (old new : Meaning) : Type 0 where
  pub value : ℕ → List ℕ
  pub origin : (k : ℕ) → Inside opened v k → IsTrue old.tells → old.reads (place opened v source k).0 (place opened v source k).1 (value k)
  pub one : (k : ℕ) (x : List ℕ) → Inside opened v k → (inner_meaning core new).leaves v k x → x ≡ value k
