-- `fail`: what `fail_whole` asks, and what stands then.
use Rattle.vx_loggroup.proofs.FactLemmas.{from_logged, to_logged}
use Rattle.vx_loggroup.proofs.group.LoggedGroup.fail.Goals as goal

pub fail_whole-requires-clause-stands : goal.fail_whole-requires-clause-stands
fail_whole-requires-clause-stands g c = λ κs within. from_logged c.args.self.now.core c.args.self.now.logs.items c.args.self.now.alike c.args.self.now.stopped (g.R.Shelf.meaning c.args.self.now.shelf) c.args.self.now.stands

pub fail_whole-requires-clause-fresh : goal.fail_whole-requires-clause-fresh
fail_whole-requires-clause-fresh g c = λ κs within. c.args.self.now.begins

pub invariant_of-self : goal.invariant_of-self
invariant_of-self g c = record { stands = to_logged c.args.self.now.core c.args.self.now.logs.items c.args.self.now.alike c.args.self.now.stopped (g.R.Shelf.meaning c.fail_whole.new.rack) c.fail_whole.ensures.stands; begins = c.fail_whole.ensures.fresh; settles = c.fail_whole.ensures.settles }

pub fail_whole-requires-clause-settles : goal.fail_whole-requires-clause-settles
fail_whole-requires-clause-settles g c = λ κs within. c.args.self.now.settles
