-- What the rack tells at the start.
use Rattle.vx_untold.specs.Shades.{rack_of}
use Rattle.vx_grouped.proofs.watching.att_watched.Given as goal

abbrev pub ghosts-att_traced : goal.ghosts-att_traced
ghosts-att_traced g a = record { first = g.R.Shelf.meaning (rack_of a.laid.shelf) }
