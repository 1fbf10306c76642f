-- The disks with which the account begins.
use Rattle.vx_untold.specs.Shades.{shade_meaning}
use Rattle.vx_grouped.proofs.site_making.make_shaded.Given as goal

abbrev pub ghosts-make_from : goal.ghosts-make_from
ghosts-make_from g a = record { first = shade_meaning g.R.Shelf.meaning a.group.shelf }
