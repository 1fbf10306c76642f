-- The disks with which the account begins.
use Rattle.vx_untold.specs.Shades.{shade_meaning}
use Rattle.vx_grouped.proofs.site_returning.import_shaded.Given as goal

abbrev pub ghosts-import_from : goal.ghosts-import_from
ghosts-import_from g a = record { first = shade_meaning g.R.Shelf.meaning a.rack }
