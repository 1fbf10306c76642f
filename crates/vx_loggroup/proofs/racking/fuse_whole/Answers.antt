-- `fuse_whole`: clauses stands and fresh.
use Rattle.vx_loggroup.proofs.RackLemmas.{alike_fresh, alike_logged}
use Rattle.vx_loggroup.proofs.SettledFacts.{settled_alike}
use Rattle.vx_loggroup.proofs.racking.fuse_whole.Goals as goal

pub returns-clause-stands : goal.returns-clause-stands
returns-clause-stands g c = alike_logged c.args.core.now c.args.logs.now.items c.args.alike.now c.args.stopped (g.R.Shelf.meaning c.args.rack.now) (g.R.Shelf.meaning c.fuse_in.new.rack) c.fuse_in.ensures.alike c.fuse_in.ensures.down c.fuse_in.ensures.stands c.requires.stands

pub returns-clause-fresh : goal.returns-clause-fresh
returns-clause-fresh g c = alike_fresh c.args.core.now c.args.fresh.now (g.R.Shelf.meaning c.args.rack.now) (g.R.Shelf.meaning c.fuse_in.new.rack) c.fuse_in.ensures.alike c.requires.fresh

pub returns-clause-settles : goal.returns-clause-settles
returns-clause-settles g c = settled_alike c.args.core.now c.args.alike.now (g.R.Shelf.meaning c.args.rack.now) (g.R.Shelf.meaning c.fuse_in.new.rack) c.fuse_in.ensures.alike c.fuse_in.ensures.down c.requires.settles
