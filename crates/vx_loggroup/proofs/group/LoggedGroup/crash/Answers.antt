-- `crash`: what `crash_whole` asks.
use Rattle.vx_loggroup.proofs.FactLemmas.{from_logged}
use Rattle.vx_loggroup.proofs.group.LoggedGroup.crash.Goals as goal

pub crash_whole-requires-clause-stands : goal.crash_whole-requires-clause-stands
crash_whole-requires-clause-stands g c = λ κs within. from_logged c.args.self.core c.args.self.logs.items c.args.self.alike c.args.self.stopped (g.R.Shelf.meaning c.args.self.shelf) c.args.self.stands
