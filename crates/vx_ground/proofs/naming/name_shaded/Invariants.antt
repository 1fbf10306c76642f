-- The disks with which the account begins.
use Rattle.vx_untold.specs.Shades.{shade_meaning}
use Rattle.vx_ground.proofs.naming.name_shaded.Given as goal

abbrev pub ghosts-name_watched : goal.ghosts-name_watched
ghosts-name_watched g a = record { first = shade_meaning g.R.Shelf.meaning a.group.shelf }
