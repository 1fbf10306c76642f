-- The disks with which the account begins.
use Rattle.vx_untold.specs.Shades.{shade_meaning}
use Rattle.vx_grouped.proofs.watching.write_shaded.Given as goal

abbrev pub ghosts-write_from : goal.ghosts-write_from
ghosts-write_from g a = record { first = shade_meaning g.R.Shelf.meaning a.group.shelf }
