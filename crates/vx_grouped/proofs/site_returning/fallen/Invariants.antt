-- What the rack tells at the start.
use Rattle.vx_untold.specs.Shades.{rack_of}
use Rattle.vx_grouped.proofs.site_returning.fallen.Given as goal

abbrev pub ghosts-fallen_traced : goal.ghosts-fallen_traced
ghosts-fallen_traced g a = record { first = g.R.Shelf.meaning (rack_of a.rack) }
