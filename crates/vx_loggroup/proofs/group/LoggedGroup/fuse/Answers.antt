-- `fuse`: what `fuse_whole` asks, and what stands then.
use Rattle.vx_loggroup.proofs.FactLemmas.{from_logged, to_logged}
use Rattle.vx_loggroup.proofs.group.LoggedGroup.fuse.Goals as goal

pub fuse_whole-requires-clause-stands : goal.fuse_whole-requires-clause-stands
fuse_whole-requires-clause-stands g c = λ κs within. from_logged c.args.self.now.core c.args.self.now.logs.items c.args.self.now.alike c.args.self.now.stopped (g.R.Shelf.meaning c.args.self.now.shelf) c.args.self.now.stands

pub fuse_whole-requires-clause-fresh : goal.fuse_whole-requires-clause-fresh
fuse_whole-requires-clause-fresh g c = λ κs within. c.args.self.now.begins

pub invariant_of-self : goal.invariant_of-self
invariant_of-self g c = record { stands = to_logged c.args.self.now.core c.args.self.now.logs.items c.args.self.now.alike c.args.self.now.stopped (g.R.Shelf.meaning c.fuse_whole.new.rack) c.fuse_whole.ensures.stands; begins = c.fuse_whole.ensures.fresh; settles = c.fuse_whole.ensures.settles }

pub fuse_whole-requires-clause-settles : goal.fuse_whole-requires-clause-settles
fuse_whole-requires-clause-settles g c = λ κs within. c.args.self.now.settles
