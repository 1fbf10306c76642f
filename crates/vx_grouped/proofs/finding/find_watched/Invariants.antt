-- The disks with which the account begins.
use Rattle.vx_grouped.proofs.finding.find_watched.Given as goal

abbrev pub ghosts-find_from : goal.ghosts-find_from
ghosts-find_from g a = record { first = g.R.Shelf.meaning a.rack }
