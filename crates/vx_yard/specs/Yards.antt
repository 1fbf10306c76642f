-- A yard, and of what shape its sites are.
use Rattle.std.specs.Prelude.{◌≡◌, ℕ, ◌+◌, ◌≤◌, length, Some, slice_get, Bool, true, is_some}
use Rattle.vx_model.specs.declared.limits.TheConstants.{LEAST_BLOCKS, MOST_DATA_VOLUMES, MOST_DISKS, MOST_SITES, MOST_VOLUMES}
use Rattle.vx_model.specs.declared.site.SiteState.TheVariants.{Bare, Deported}
use Rattle.vx_order.specs.declared.facts.SiteFacts.{SiteFacts}
use Rattle.vx_disk.specs.declared.shelf.Shelf.{Ghosts}
use Rattle.vx_yard.specs.declared.yard.Yard.{Yard}
use Rattle.vx_yard.specs.Stands.{AreTold, site_faults}

-- A site of no more volumes than a group and a replicated volume group over it may have, of blocks enough, which is deported only as a group.
pub record IsShaped (f : SiteFacts) : Type 0 where
  pub volumes : length f.volumes ≤ MOST_VOLUMES + MOST_DATA_VOLUMES
  pub disks : f.state ≡ Bare → f.disks ≤ MOST_DISKS
  pub blocks : LEAST_BLOCKS ≤ f.blocks
  pub grouped : f.state ≡ Deported → f.grouped ≡ true

module _ {R : Type 0} {g : Ghosts R} where
  -- whether its disks are kept in files
  abbrev pub in_files : Yard R g → Bool
  in_files y = is_some y.dir

  -- the count of faults of a disk of a site
  abbrev pub count_of : Yard R g → ℕ → ℕ → ℕ
  count_of y = site_faults y.disk_sets.items

  -- the contents of all its disks are told
  abbrev pub IsTold : Yard R g → Type 0
  IsTold y = AreTold y.disk_sets.items

  -- eight disk sets, and no more sites, each of a shape that a site may have; and for each number a message in assembly and the site that feeds it
  pub record IsYardKept (y : Yard R g) : Type 0 where
    pub eight : length y.disk_sets.items ≡ MOST_SITES
    pub few : length y.facts.items ≤ MOST_SITES
    pub each : (s : ℕ) (f : SiteFacts) → slice_get y.facts.items s ≡ Some f → IsShaped f
    pub places : length y.assemblies.items ≡ MOST_SITES
    pub numbers : length y.feeders.items ≡ MOST_SITES
