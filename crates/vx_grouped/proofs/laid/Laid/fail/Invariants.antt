-- What the rack tells at the start.
use Rattle.vx_untold.specs.Shades.{rack_of}
use Rattle.vx_grouped.proofs.laid.Laid.fail.Given as goal

abbrev pub ghosts-fail_laid : goal.ghosts-fail_laid
ghosts-fail_laid g a = record { first = g.R.Shelf.meaning (rack_of a.laid.shelf) }
