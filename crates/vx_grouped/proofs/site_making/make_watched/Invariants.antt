-- What the rack tells at the start.
use Rattle.vx_untold.specs.Shades.{rack_of}
use Rattle.vx_grouped.proofs.site_making.make_watched.Given as goal

abbrev pub ghosts-make_traced : goal.ghosts-make_traced
ghosts-make_traced g a = record { first = g.R.Shelf.meaning (rack_of a.laid.shelf) }
