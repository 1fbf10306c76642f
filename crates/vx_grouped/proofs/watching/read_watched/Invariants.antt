-- What the rack tells at the start.
use Rattle.vx_untold.specs.Shades.{rack_of}
use Rattle.vx_grouped.proofs.watching.read_watched.Given as goal

abbrev pub ghosts-read_traced : goal.ghosts-read_traced
ghosts-read_traced g a = record { first = g.R.Shelf.meaning (rack_of a.laid.shelf) }
