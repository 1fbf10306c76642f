-- The racks of the disk sets.
use Rattle.std.specs.Prelude.{List, [], ◌∷◌, ◌++◌}
use Rattle.vx_disk.specs.declared.shelf.Shelf.{Ghosts}
use Rattle.vx_diskset.specs.declared.disk_set.DiskSet.{DiskSet}
use Rattle.vx_diskset.specs.declared.disk_set.DiskSet.TheVariants.{Bare, Spoiled, Up, Receives, Down, OfGroup, Over, Gone}
use Rattle.vx_untold.specs.Shades.{rack_of}
use Rattle.vx_diskset.specs.Aboves.{site_in}
use Rattle.vx_grouped.specs.declared.group_site.GroupSite.{GroupSite}
use Rattle.vx_grouped.specs.declared.group_site.GroupSite.TheVariants.{Up as GroupUp, Deported, Down as GroupDown, Marked, Gone as GroupGone}

module _ {R : Type 0} {g : Ghosts R} where
  -- that of a site whose disks are a group
  abbrev pub site_rack : GroupSite R g → List R
  site_rack (GroupUp laid) = rack_of laid.shelf ∷ []
  site_rack (Deported idle) = rack_of idle.rack ∷ []
  site_rack (GroupDown idle) = rack_of idle.rack ∷ []
  site_rack (Marked rack) = rack ∷ []
  site_rack GroupGone = []

  -- that of one, if it is not taken out
  abbrev pub rack_in : DiskSet R g → List R
  rack_in (Bare rack) = rack ∷ []
  rack_in (Spoiled rack) = rack ∷ []
  rack_in (Up rvg) = rvg.shelf ∷ []
  rack_in (Receives s) = s.rvg.shelf ∷ []
  rack_in (Down rack) = rack ∷ []
  rack_in (OfGroup s) = site_rack s.site
  rack_in (Over s) = site_rack (site_in s)
  rack_in Gone = []

  abbrev pub racks_in : List (DiskSet R g) → List R
  racks_in [] = []
  racks_in (disk_set ∷ disk_sets) = rack_in disk_set ++ racks_in disk_sets
