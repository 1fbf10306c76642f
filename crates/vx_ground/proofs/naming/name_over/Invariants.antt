-- What the rack tells at the start.
use Rattle.vx_untold.specs.Shades.{rack_of}
use Rattle.vx_ground.proofs.naming.name_over.Given as goal

abbrev pub ghosts-name_traced : goal.ghosts-name_traced
ghosts-name_traced g a = record { first = g.R.Shelf.meaning (rack_of a.laid.shelf) }
