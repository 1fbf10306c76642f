-- What a rack in memory or in files means, by the shelf in memory within it.
use Rattle.std.specs.Prelude.{◌≡◌, ℕ, ◌<◌, ◌≤◌, Bool, false, Option, None, Some, [], length}
use Rattle.std.specs.Option.{ForSome}
use Rattle.vx_disk.specs.Disks.{Disks}
use Rattle.vx_disk.specs.Shelf.{Image, Meaning, Values}
use Rattle.vx_model.specs.declared.limits.TheConstants.{LEAST_BLOCKS}
use Rattle.vx_filedisk.specs.declared.files.DiskFiles.{DiskFiles}

-- where there are files, there is one for each of the shelf's disks, and those have some blocks
abbrev pub AsMany : Option DiskFiles → Meaning → Type 0
AsMany files m = ForSome files (λ f. (length f.files.items ≡ m.units) × (0 < m.units) × ((u : ℕ) → u < m.units → LEAST_BLOCKS ≤ m.size u))

-- a file's size is its number of blocks
abbrev pub disk_sizes : Option DiskFiles → (ℕ → ℕ) → ℕ → ℕ
disk_sizes None size u = size u
disk_sizes (Some f) size u = f.blocks

-- nothing is told of the contents of files
abbrev pub telling : Option DiskFiles → Bool → Bool
telling None tells = tells
telling (Some f) tells = false

abbrev pub values : Option DiskFiles → Values → Values
values None known u b v = known u b v
values (Some f) known u b v = ⊥

abbrev pub images : Option DiskFiles → (Image → Type 0) → Image → Type 0
images None known i = known i
images (Some f) known i = ⊥

-- of files only the fuse is told, and which disks are made to fail
abbrev pub blank_disks : Disks → Disks
blank_disks d = record {
  stable = λ u b. [];
  latest = λ u b. [];
  loose = λ u b. false;
  fuse = d.fuse;
  failing = d.failing;
}

abbrev pub shown : Option DiskFiles → Option Disks → Option Disks
shown None disks = disks
shown (Some f) None = None
shown (Some f) (Some d) = Some (blank_disks d)

-- the rack has its own counts, and all else by the shelf within it
abbrev pub host_meaning : Option DiskFiles → (ℕ → ℕ) → Meaning → Meaning
host_meaning files counts m = record {
  units = m.units;
  size = disk_sizes files m.size;
  tells = telling files m.tells;
  reads = values files m.reads;
  leaves = values files m.leaves;
  now = images files m.now;
  moment = m.moment;
  left_since = λ t. images files (m.left_since t);
  faults = counts;
  disk_faults = counts;
  down = m.down;
  armed = m.armed;
  disks = shown files m.disks;
}
