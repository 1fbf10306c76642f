-- The account begins with what there is.
use Rattle.vx_ground.proofs.AccountLemmas.{ground_none}
use Rattle.vx_ground.specs.Accounts.{ground_state}
use Rattle.vx_ground.proofs.lifting.work_grounded.Goals as goal

pub work_from-requires-clause-since : goal.work_from-requires-clause-since
work_from-requires-clause-since g c = λ κs within. ground_none (ground_state c.args.group.core) (g.S.Shelf.meaning c.args.group.shelf)
