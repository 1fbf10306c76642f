-- The disks with which the account begins.
use Rattle.vx_untold.specs.Shades.{shade_meaning}
use Rattle.vx_grouped.proofs.watching.att_shaded.Given as goal

abbrev pub ghosts-att_from : goal.ghosts-att_from
ghosts-att_from g a = record { first = shade_meaning g.R.Shelf.meaning a.group.shelf }
