-- What the rack tells at the start.
use Rattle.vx_untold.specs.Shades.{rack_of}
use Rattle.vx_grouped.proofs.site_leaving.deport_watched.Given as goal

abbrev pub ghosts-deport_traced : goal.ghosts-deport_traced
ghosts-deport_traced g a = record { first = g.R.Shelf.meaning (rack_of a.laid.shelf) }
