-- The disks with which the account begins.
use Rattle.vx_grouped.proofs.beginning.create_watched.Given as goal

abbrev pub ghosts-create_from : goal.ghosts-create_from
ghosts-create_from g a = record { first = g.R.Shelf.meaning a.rack }
