-- The disks with which the account begins.
use Rattle.vx_untold.specs.Shades.{shade_meaning}
use Rattle.vx_grouped.proofs.watching.det_shaded.Given as goal

abbrev pub ghosts-det_from : goal.ghosts-det_from
ghosts-det_from g a = record { first = shade_meaning g.R.Shelf.meaning a.group.shelf }
