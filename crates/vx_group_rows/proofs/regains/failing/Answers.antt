-- `failing`: what the search does not find.
use Rattle.vx_group_rows.proofs.UntoldLemmas.{untold_stands}
use Rattle.vx_group_rows.proofs.regains.failing.Goals as goal

pub together-requires-2 : goal.together-requires-2
together-requires-2 c = record { stands = untold_stands _ _ _ (λ u b v left. left) c.fail.ensures.goes.units c.fail.ensures.goes.size c.apart-shelf.ensures.stands }
