-- What the rack tells at the start.
use Rattle.vx_untold.specs.Shades.{rack_of}
use Rattle.vx_grouped.proofs.site_keeping.kept_watched.Given as goal

abbrev pub ghosts-kept_traced : goal.ghosts-kept_traced
ghosts-kept_traced g a = record { first = g.R.Shelf.meaning (rack_of a.laid.shelf) }
