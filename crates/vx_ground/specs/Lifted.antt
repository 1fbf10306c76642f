-- A group as the shelf of its volumes.
use Rattle.vx_disk.specs.Shelf.{Meaning}
use Rattle.vx_disk.specs.declared.shelf.Shelf.{Ghosts}
use Rattle.vx_group.specs.Holding.{wide}
use Rattle.vx_group.specs.Stands.{inner_meaning}
use Rattle.vx_group.specs.declared.group_core.GroupCore.{GroupCore}
use Rattle.vx_grouped.specs.declared.laid.Laid.{Laid}
use Rattle.vx_untold.specs.Shades.{shade_meaning}

abbrev pub volumes_over : GroupCore → Meaning → Meaning
volumes_over core m = inner_meaning (wide core) m

module _ {R : Type 0} {g : Ghosts R} where
  -- the same of one that is up on the disks of a site
  abbrev pub laid_volumes : Laid R g → Meaning
  laid_volumes laid = volumes_over laid.core (shade_meaning g.meaning laid.shelf)
