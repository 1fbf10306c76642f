-- What the rack tells at the start.
use Rattle.vx_untold.specs.Shades.{rack_of}
use Rattle.vx_grouped.proofs.laid.Laid.fuse.Given as goal

abbrev pub ghosts-fuse_laid : goal.ghosts-fuse_laid
ghosts-fuse_laid g a = record { first = g.R.Shelf.meaning (rack_of a.laid.shelf) }
