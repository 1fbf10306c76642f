-- What the rack tells at the start.
use Rattle.vx_untold.specs.Shades.{rack_of}
use Rattle.vx_grouped.proofs.watching.write_watched.Given as goal

abbrev pub ghosts-write_traced : goal.ghosts-write_traced
ghosts-write_traced g a = record { first = g.R.Shelf.meaning (rack_of a.laid.shelf) }
