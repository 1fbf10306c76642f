-- The volumes of a group that is up below a replicated volume group.
use Rattle.vx_blockwise.specs.Blocks.{blockwise}
use Rattle.vx_disk.specs.Shelf.{Meaning}
use Rattle.vx_disk.specs.declared.shelf.Shelf.{Ghosts}
use Rattle.vx_ground.specs.Lifted.{laid_volumes}
use Rattle.vx_grouped.specs.declared.laid.Laid.{Laid}

module _ {R : Type 0} {g : Ghosts R} where
  -- As a crash leaves each of their blocks by itself: another plex may have been written further than the one by which an import shows a volume.
  abbrev pub laid_blockwise : Laid R g → Meaning
  laid_blockwise laid = blockwise (laid_volumes laid)
