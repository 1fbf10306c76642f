-- A group over a shelf, as a shelf whose units are its volumes.
use Rattle.std.specs.Prelude.{◌≡◌, ◌⊎◌, ℕ, ◌<◌, ◌≤◌, Bool, true, IsTrue, None, List, [], length}
use Rattle.vx_model.specs.declared.limits.TheConstants.{PUBLIC_START}
use Rattle.vx_disk.specs.Shelf.{Meaning, Image, Values}
use Rattle.vx_copyfmt.specs.Imports.{ImportOutcome, Found, import_of}
use Rattle.vx_config.specs.Checks.{blocks_of}
use Rattle.vx_config.specs.declared.config.Config.{Config}
use Rattle.vx_copies.specs.Bodies.{failed_in}
use Rattle.vx_copies.specs.Looking.{on_shelf}
use Rattle.vx_kept.specs.Choice.{chosen}
use Rattle.vx_layout.specs.Places.{place}
use Rattle.vx_volume.specs.Plexes.{Inside, active}

-- ---- what an image of the disks tells

-- what an import finds that can read these disks
abbrev pub found_by : Meaning → (ℕ → Bool) → Image → ImportOutcome Config
found_by m readable i = import_of (on_shelf m) failed_in m.units readable i

-- and one that can read all
abbrev pub found : Meaning → Image → ImportOutcome Config
found m i = found_by m (λ u. true) i

-- the volumes of c by a configuration x: each block as its plex has it
pub record Shows (c x : Config) (below above : Image) : Type 0 where
  pub here : (v b : ℕ) → Inside c v b → above v b ≡ below (place x v (chosen x v) b).0 (place x v (chosen x v) b).1
  pub beyond : (v b : ℕ) → (Inside c v b → ⊥) → above v b ≡ []

-- an image of the volumes of c, by the configuration of an image of the disks
pub record ImportedImage (c : Config) (m : Meaning) (P : Image → Type 0) (i : Image) : Type 0 where
  pub image : Image
  pub left : P image
  pub config : Config
  pub found : found m image ≡ Found config
  pub shows : Shows c config image i

-- ---- reads

-- a value of the block on one of the plexes that are ACTIVE
pub record OnSome (c : Config) (values : Values) (v b : ℕ) (x : List ℕ) : Type 0 where
  pub inside : Inside c v b
  pub plex : ℕ
  pub is_on : IsTrue (active c v plex)
  pub value : values (place c v plex b).0 (place c v plex b).1 x

-- outside of the volumes
pub record OutsideVolumes (told : Bool) (c : Config) (v b : ℕ) (x : List ℕ) : Type 0 where
  pub tells : IsTrue told
  pub outside : Inside c v b → ⊥
  pub empty : x ≡ []

-- the values of a block of a volume
abbrev pub seen : Bool → Config → Values → Values
seen tells c values v b x = OnSome c values v b x ⊎ OutsideVolumes tells c v b x

-- Reads go by the plexes that are ACTIVE in memory, images by the configuration in the image.
abbrev pub group_meaning : Config → (ℕ → ℕ) → Meaning → Meaning
group_meaning c faults m = record {
  units = length c.volumes;
  size = blocks_of c.volumes;
  tells = m.tells;
  reads = seen m.tells c m.reads;
  leaves = seen m.tells c m.leaves;
  now = ImportedImage c m m.now;
  moment = m.moment;
  left_since = λ t. ImportedImage c m (m.left_since t);
  faults = faults;
  disk_faults = m.disk_faults;
  down = m.down;
  armed = m.armed;
  disks = None;
}

-- ---- places

-- places of plexes are behind the configuration areas, and no two blocks have one place
pub record PlacesApart (c : Config) : Type 0 where
  pub above : (v p b : ℕ) → Inside c v b → IsTrue (active c v p) → PUBLIC_START ≤ (place c v p b).1
  pub one : (v p b w q d : ℕ) → Inside c v b → Inside c w d → IsTrue (active c v p) → IsTrue (active c w q) → place c v p b ≡ place c w q d → (v ≡ w) × (p ≡ q) × (b ≡ d)

-- the number of a plex that is ACTIVE, for each volume
pub record HasActive (c : Config) : Type 0 where
  pub first : ℕ → ℕ
  pub is_on : (v : ℕ) → v < length c.volumes → IsTrue (active c v (first v))
