-- What the rack tells at the start.
use Rattle.vx_untold.specs.Shades.{rack_of}
use Rattle.vx_grouped.proofs.laid.Laid.crash.Given as goal

abbrev pub ghosts-crash_laid : goal.ghosts-crash_laid
ghosts-crash_laid g a = record { first = g.R.Shelf.meaning (rack_of a.laid.shelf) }
