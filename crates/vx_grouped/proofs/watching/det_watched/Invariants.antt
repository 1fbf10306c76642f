-- What the rack tells at the start.
use Rattle.vx_untold.specs.Shades.{rack_of}
use Rattle.vx_grouped.proofs.watching.det_watched.Given as goal

abbrev pub ghosts-det_traced : goal.ghosts-det_traced
ghosts-det_traced g a = record { first = g.R.Shelf.meaning (rack_of a.laid.shelf) }
