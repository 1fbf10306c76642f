-- What the rack tells at the start.
use Rattle.vx_untold.specs.Shades.{rack_of}
use Rattle.vx_ground.proofs.lifting.work_over.Given as goal

abbrev pub ghosts-work_traced : goal.ghosts-work_traced
ghosts-work_traced g a = record { first = g.R.Shelf.meaning (rack_of a.laid.shelf) }
