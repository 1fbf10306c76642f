-- A group that was made has no volume, so nothing is to be told of any.
use Rattle.vx_loggroup.proofs.SettledFacts.{settled_new}
use Rattle.vx_loggroup.proofs.group.LoggedGroup.create.Goals as goal

pub invariant_of-result-clause-settles : goal.invariant_of-result-clause-settles
invariant_of-result-clause-settles g c = settled_new c.args.site (g.S.Shelf.meaning c.args.shelf) c.in-Ok.inner _ (g.S.Shelf.meaning c.start.new.shelf) c.in-Ok.ensures.created
