-- What the rack tells at the start.
use Rattle.vx_untold.specs.Shades.{rack_of}
use Rattle.vx_grouped.proofs.site_returning.risen.Given as goal

abbrev pub ghosts-risen_traced : goal.ghosts-risen_traced
ghosts-risen_traced g a = record { first = g.R.Shelf.meaning (rack_of a.rack) }
