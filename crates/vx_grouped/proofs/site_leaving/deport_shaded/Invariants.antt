-- The disks with which the account begins.
use Rattle.vx_untold.specs.Shades.{shade_meaning}
use Rattle.vx_grouped.proofs.site_leaving.deport_shaded.Given as goal

abbrev pub ghosts-deport_from : goal.ghosts-deport_from
ghosts-deport_from g a = record { first = shade_meaning g.R.Shelf.meaning a.group.shelf }
