-- What the rack tells at the start.
use Rattle.vx_untold.specs.Shades.{rack_of}
use Rattle.vx_grouped.proofs.site_returning.import_watched.Given as goal

abbrev pub ghosts-import_traced : goal.ghosts-import_traced
ghosts-import_traced g a = record { first = g.R.Shelf.meaning (rack_of a.rack) }
