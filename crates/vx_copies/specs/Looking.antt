-- What the reading of a disk shows.
use Rattle.std.specs.Prelude.{◌≡◌, ◌≢◌, ℕ, ◌+◌, ◌*◌, ◌≤◌, IsTrue, if◌then◌else◌, Option, Some, None, List, length, take}
use Rattle.vx_model.specs.declared.limits.TheConstants.{BLOCK, MOST_DISKS}
use Rattle.vx_disk.specs.Counts.{Rose}
use Rattle.vx_disk.specs.Shelf.{Meaning, Covers, piece}
use Rattle.vx_copyfmt.specs.Copies.{Disk, Copy, Body, Holds, Differs, copy_at, copy_of, copy_with}
use Rattle.vx_copyfmt.specs.Imports.{is_label, strange_label}
use Rattle.vx_copyfmt.specs.Labels.{seen_in}
use Rattle.vx_copyfmt.specs.declared.area.AreaHeader.{AreaHeader}
use Rattle.vx_config.specs.declared.config.Config.{Config}
use Rattle.vx_copies.specs.Bodies.{of_serial, reads_in}
use Rattle.vx_copies.specs.declared.seen.AreaSeen.{AreaSeen}
use Rattle.vx_copies.specs.declared.seen.AreaSeen.TheVariants as area
use Rattle.vx_copies.specs.declared.seen.BodySeen.{BodySeen}
use Rattle.vx_copies.specs.declared.seen.BodySeen.TheVariants as body
use Rattle.vx_copies.specs.declared.seen.CopySeen.{CopySeen}
use Rattle.vx_copies.specs.declared.seen.DiskSeen.{DiskSeen}
use Rattle.vx_copies.specs.declared.seen.DiskSeen.TheVariants as disk

abbrev pub body_view : BodySeen → Body Config
body_view (body.Holds c) = Holds c
body_view (body.Differs stored computed) = Differs stored computed

-- what was seen of a copy, as one
abbrev pub copy_view : Option CopySeen → Option (Copy Config)
copy_view None = None
copy_view (Some x) = Some (record { serial = x.serial; area = x.area; body = body_view x.body })

-- a configuration that was seen has as many disks as there are units, and at most 8
abbrev pub FitsBody : ℕ → BodySeen → Type 0
FitsBody units (body.Holds c) = (length c.disks ≡ units) × (length c.disks ≤ MOST_DISKS)
FitsBody units (body.Differs stored computed) = Unit {0}

abbrev pub CopyFits : ℕ → Option CopySeen → Type 0
CopyFits units None = Unit {0}
CopyFits units (Some x) = FitsBody units x.body

abbrev pub FitsArea : ℕ → AreaSeen → Type 0
FitsArea units area.Unreadable = Unit {0}
FitsArea units (area.Seen copy) = CopyFits units copy

abbrev pub FitsDisk : ℕ → DiskSeen → Type 0
FitsDisk units disk.Unreadable = Unit {0}
FitsDisk units (disk.Format version) = Unit {0}
FitsDisk units (disk.Seen copy) = CopyFits units copy

-- what a body counts as on this shelf, behind a header of this serial
abbrev pub on_shelf : Meaning → ℕ → List ℕ → Option Config
on_shelf m serial bytes = of_serial serial (reads_in m.units m.size bytes)

-- reads gave whole blocks, and a header with their first bytes as its body is this copy
pub record ShowsBody (u a : ℕ) (h : AreaHeader) (m : Meaning) (seen : Option CopySeen) : Type 0 where
  pub bytes : List ℕ
  pub count : ℕ
  pub whole : length bytes ≡ BLOCK * count
  pub few : count ≤ 127
  pub long : h.length ≤ length bytes
  pub read : IsTrue m.tells → (b : ℕ) → Covers u (a + 1) bytes u b → m.reads u b (piece (a + 1) bytes b)
  pub copy : copy_with (on_shelf m) a h (take h.length bytes) ≡ copy_view seen

-- it could not be read only where the count of its disk rose
abbrev pub SeesBody : ℕ → ℕ → AreaHeader → Meaning → Meaning → AreaSeen → Type 0
SeesBody u a h old new area.Unreadable = Rose (old.faults u) (new.faults u)
SeesBody u a h old new (area.Seen copy) = ShowsBody u a h old copy

-- a disk in which reads gave the blocks of an area, and what its copy there is
pub record ShowsArea (u a : ℕ) (m : Meaning) (seen : Option CopySeen) : Type 0 where
  pub blocks : Disk
  pub read : IsTrue m.tells → (b : ℕ) → a ≤ b → b ≤ a + 127 → m.reads u b (blocks b)
  pub copy : copy_at (on_shelf m) blocks a ≡ copy_view seen

abbrev pub SeesArea : ℕ → ℕ → Meaning → Meaning → AreaSeen → Type 0
SeesArea u a old new area.Unreadable = Rose (old.faults u) (new.faults u)
SeesArea u a old new (area.Seen copy) = ShowsArea u a old copy

-- the same of both areas
pub record ShowsAreas (u : ℕ) (m : Meaning) (seen : Option CopySeen) : Type 0 where
  pub blocks : Disk
  pub read : IsTrue m.tells → (b : ℕ) → 1 ≤ b → b ≤ 256 → m.reads u b (blocks b)
  pub copy : copy_of (on_shelf m) blocks ≡ copy_view seen

abbrev pub SeesAreas : ℕ → Meaning → Meaning → DiskSeen → Type 0
SeesAreas u old new disk.Unreadable = Rose (old.faults u) (new.faults u)
SeesAreas u old new (disk.Format version) = ⊥
SeesAreas u old new (disk.Seen copy) = ShowsAreas u old copy

-- a disk as reads gave it
pub record IsDiskRead (u : ℕ) (m : Meaning) (blocks : Disk) : Type 0 where
  pub each : IsTrue m.tells → (b : ℕ) → m.reads u b (blocks b)

-- its label is of a version that is not known
pub record ShowsFormat (u : ℕ) (m : Meaning) (version : ℕ) : Type 0 where
  pub blocks : Disk
  pub read : IsDiskRead u m blocks
  pub label : strange_label (seen_in (blocks 0)) ≡ Some version

-- its label is known or none; where it has one, its greater copy is this
pub record ShowsDisk (u : ℕ) (m : Meaning) (seen : Option CopySeen) : Type 0 where
  pub blocks : Disk
  pub read : IsDiskRead u m blocks
  pub label : strange_label (seen_in (blocks 0)) ≡ None
  pub copy : (if is_label (seen_in (blocks 0)) then copy_of (on_shelf m) blocks else None) ≡ copy_view seen

abbrev pub SeesDisk : ℕ → Meaning → Meaning → DiskSeen → Type 0
SeesDisk u old new disk.Unreadable = Rose (old.faults u) (new.faults u)
SeesDisk u old new (disk.Format version) = ShowsFormat u old version
SeesDisk u old new (disk.Seen copy) = ShowsDisk u old copy

-- what was read raised no count of faults, and what could not be read none but that of its disk
abbrev pub CountsArea : ℕ → (ℕ → ℕ) → (ℕ → ℕ) → AreaSeen → Type 0
CountsArea u old new area.Unreadable = (v : ℕ) → v ≢ u → new v ≡ old v
CountsArea u old new (area.Seen copy) = (v : ℕ) → new v ≡ old v

abbrev pub CountsDisk : ℕ → (ℕ → ℕ) → (ℕ → ℕ) → DiskSeen → Type 0
CountsDisk u old new disk.Unreadable = (v : ℕ) → v ≢ u → new v ≡ old v
CountsDisk u old new (disk.Format version) = (v : ℕ) → new v ≡ old v
CountsDisk u old new (disk.Seen copy) = (v : ℕ) → new v ≡ old v
