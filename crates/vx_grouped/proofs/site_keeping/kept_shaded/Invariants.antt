-- The disks with which the account begins.
use Rattle.vx_untold.specs.Shades.{shade_meaning}
use Rattle.vx_grouped.proofs.site_keeping.kept_shaded.Given as goal

abbrev pub ghosts-kept_from : goal.ghosts-kept_from
ghosts-kept_from g a = record { first = shade_meaning g.R.Shelf.meaning a.group.shelf }
