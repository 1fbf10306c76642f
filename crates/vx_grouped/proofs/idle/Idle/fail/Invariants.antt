-- What the rack tells at the start.
use Rattle.vx_untold.specs.Shades.{rack_of}
use Rattle.vx_grouped.proofs.idle.Idle.fail.Given as goal

abbrev pub ghosts-fail_idle : goal.ghosts-fail_idle
ghosts-fail_idle g a = record { first = g.R.Shelf.meaning (rack_of a.idle.rack) }
