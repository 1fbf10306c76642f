-- `apart`: clauses stands and begins.
use Rattle.vx_loggroup.proofs.FactLemmas.{from_logged}
use Rattle.vx_loggroup.proofs.group.LoggedGroup.apart.Goals as goal

pub returns-clause-stands : goal.returns-clause-stands
returns-clause-stands g c = from_logged c.args.self.core c.args.self.logs.items c.args.self.alike c.args.self.stopped (g.S.Shelf.meaning c.args.self.shelf) c.args.self.stands

pub returns-clause-begins : goal.returns-clause-begins
returns-clause-begins g c = c.args.self.begins

pub returns-clause-settles : goal.returns-clause-settles
returns-clause-settles g c = c.args.self.settles
