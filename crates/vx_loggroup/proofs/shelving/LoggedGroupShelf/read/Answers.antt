-- `read`: what `read_whole` asks, and what stands then.
use Rattle.vx_loggroup.proofs.FactLemmas.{from_logged, to_logged}
use Rattle.vx_loggroup.proofs.FreshLemmas.{fresh_still}
use Rattle.vx_loggroup.specs.Mirrors.{names_none}
use Rattle.vx_loggroup.proofs.MirrorLemmas.{keep_same}
use Rattle.vx_loggroup.proofs.KeepingLemmas.{config_keeps}
use Rattle.vx_loggroup.proofs.SettledFacts.{settled_read}
use Rattle.vx_loggroup.proofs.shelving.LoggedGroupShelf.read.Goals as goal

pub read_whole-requires-clause-stands : goal.read_whole-requires-clause-stands
read_whole-requires-clause-stands g c = from_logged c.args.self.now.core c.args.self.now.logs.items c.args.self.now.alike c.args.self.now.stopped (g.S.Shelf.meaning c.args.self.now.shelf) c.args.self.now.stands

pub invariant_of-self : goal.invariant_of-self
invariant_of-self g c = record { stands = to_logged c.read_whole.new.core c.args.self.now.logs.items c.args.self.now.alike c.args.self.now.stopped (g.S.Shelf.meaning c.read_whole.new.shelf) c.read_whole.ensures.stands; begins = fresh_still c.args.self.now.core c.read_whole.new.core c.args.self.now.fresh (g.S.Shelf.meaning c.args.self.now.shelf) (g.S.Shelf.meaning c.read_whole.new.shelf) c.read_whole.ensures.goes c.args.self.now.begins; settles = settled_read c.args.self.now.core c.read_whole.new.core c.args.self.now.alike (g.S.Shelf.meaning c.args.self.now.shelf) (g.S.Shelf.meaning c.read_whole.new.shelf) (g.met.S.Shelf.lawful c.args.self.now.shelf) (g.met.S.Shelf.lawful c.read_whole.new.shelf) c.args.self.now.stands.group c.read_whole.ensures.below c.read_whole.ensures.same c.read_whole.ensures.held c.read_whole.ensures.trusted.0 c.read_whole.ensures.settled c.read_whole.ensures.unsure c.args.self.now.settles }

pub returns-clause-mirrors : goal.returns-clause-mirrors
returns-clause-mirrors g c = keep_same names_none c.args.self.now.core c.read_whole.new.core (g.S.Shelf.meaning c.args.self.now.shelf) (g.S.Shelf.meaning c.read_whole.new.shelf) c.read_whole.ensures.same

pub returns-clause-keeps : goal.returns-clause-keeps
returns-clause-keeps g c = config_keeps c.args.self.now.core c.read_whole.new.core c.args.self.now.logs.items (g.S.Shelf.meaning c.args.self.now.shelf) (g.S.Shelf.meaning c.read_whole.new.shelf) c.read_whole.ensures.same
