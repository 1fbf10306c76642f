-- The disks with which the account begins.
use Rattle.vx_untold.specs.Shades.{shade_meaning}
use Rattle.vx_grouped.proofs.watching.read_shaded.Given as goal

abbrev pub ghosts-read_from : goal.ghosts-read_from
ghosts-read_from g a = record { first = shade_meaning g.R.Shelf.meaning a.group.shelf }
