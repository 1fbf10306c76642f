-- The configuration and the disks with which the account begins.
use Rattle.vx_ground.specs.Accounts.{ground_state}
use Rattle.vx_ground.proofs.lifting.work_grounded.Given as goal

abbrev pub ghosts-work_from : goal.ghosts-work_from
ghosts-work_from g a = record { state = ground_state a.group.core; disks = g.S.Shelf.meaning a.group.shelf }
