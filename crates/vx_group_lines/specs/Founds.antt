-- A bare site on whose disks an earlier run may have left a group.
use Rattle.std.specs.Prelude.{◌≡◌, ℕ, List, Some, slice_get}
use Rattle.vx_model.specs.declared.site.SiteState.TheVariants.{Bare}
use Rattle.vx_disk.specs.declared.shelf.Shelf.{Ghosts}
use Rattle.vx_history.specs.Doubts.{Doubted}
use Rattle.vx_diskset.specs.Stands.{IsToldAt}
use Rattle.vx_diskset.specs.declared.disk_set.DiskSet.{DiskSet}
use Rattle.vx_events.specs.Facts.{site_number}
use Rattle.vx_yard.specs.declared.yard.Yard.{Yard}

module _ {R : Type 0} {g : Ghosts R} where
  -- the site of this name is bare, and nothing is told of what its disks hold
  pub record IsBareUntold (d : Doubted) (name : List ℕ) (y : Yard R g) : Type 0 where
    pub bare : (d.world.nodes (site_number d.world name)).state ≡ Bare
    pub untold : (e : DiskSet R g) → slice_get y.disk_sets.items (site_number d.world name) ≡ Some e → IsToldAt e → ⊥
