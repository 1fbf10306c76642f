-- The disks with which the account begins.
use Rattle.vx_untold.specs.Shades.{shade_meaning}
use Rattle.vx_ground.proofs.lifting.work_shaded.Given as goal

abbrev pub ghosts-work_watched : goal.ghosts-work_watched
ghosts-work_watched g a = record { first = shade_meaning g.R.Shelf.meaning a.group.shelf }
