-- `flush`: what `flush_whole` asks, and what stands then.
use Rattle.vx_loggroup.proofs.FactLemmas.{from_logged, to_logged}
use Rattle.vx_loggroup.proofs.FreshLemmas.{fresh_still}
use Rattle.vx_loggroup.specs.Mirrors.{names_none}
use Rattle.vx_loggroup.proofs.MirrorLemmas.{keep_loses}
use Rattle.vx_group.proofs.TrustLemmas.{ok_from}
use Rattle.vx_loggroup.proofs.SureLemmas.{says_losses}
use Rattle.vx_loggroup.proofs.SettledFacts.{settled_same, volumes_few}
use Rattle.vx_disk.specs.Shelf.{Nothing}
use Rattle.vx_loggroup.proofs.shelving.LoggedGroupShelf.flush.Goals as goal

pub flush_whole-requires-clause-stands : goal.flush_whole-requires-clause-stands
flush_whole-requires-clause-stands g c = from_logged c.args.self.now.core c.args.self.now.logs.items c.args.self.now.alike c.args.self.now.stopped (g.S.Shelf.meaning c.args.self.now.shelf) c.args.self.now.stands

pub returns-clause-loses : goal.returns-clause-loses
returns-clause-loses g c = c.flush_whole.ensures.loses.loses

pub invariant_of-self : goal.invariant_of-self
invariant_of-self g c = record { stands = to_logged c.flush_whole.new.core c.flush_whole.new.logs.items c.args.self.now.alike c.args.self.now.stopped (g.S.Shelf.meaning c.flush_whole.new.shelf) c.flush_whole.ensures.stands; begins = fresh_still c.args.self.now.core c.flush_whole.new.core c.args.self.now.fresh (g.S.Shelf.meaning c.args.self.now.shelf) (g.S.Shelf.meaning c.flush_whole.new.shelf) c.flush_whole.ensures.goes c.args.self.now.begins; settles = settled_same c.args.self.now.core c.flush_whole.new.core c.args.self.now.alike (g.S.Shelf.meaning c.args.self.now.shelf) (g.S.Shelf.meaning c.flush_whole.new.shelf) c.flush_whole.ensures.finds (volumes_few c.args.self.now.core c.flush_whole.new.core (g.S.Shelf.meaning c.args.self.now.shelf) (g.S.Shelf.meaning c.flush_whole.new.shelf) Nothing c.flush_whole.ensures.goes) c.flush_whole.ensures.goes.falls c.args.self.now.settles }

pub returns-clause-mirrors : goal.returns-clause-mirrors
returns-clause-mirrors g c = keep_loses names_none c.args.self.now.core c.flush_whole.new.core (g.S.Shelf.meaning c.args.self.now.shelf) (g.S.Shelf.meaning c.flush_whole.new.shelf) c.flush_whole.ensures.loses.loses

pub returns-clause-keeps : goal.returns-clause-keeps
returns-clause-keeps g c = c.flush_whole.ensures.keeps

pub returns-clause-left : goal.returns-clause-left
returns-clause-left g c = c.flush_whole.ensures.left

pub returns-clause-kept : goal.returns-clause-kept
returns-clause-kept g c = ok_from c.flush_whole.result (says_losses c.args.self.now.core c.flush_whole.new.core c.args.self.now.logs.items c.flush_whole.new.logs.items) c.flush_whole.ensures.kept

pub returns-clause-said : goal.returns-clause-said
returns-clause-said g c = c.flush_whole.ensures.said
