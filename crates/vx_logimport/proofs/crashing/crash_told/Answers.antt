-- `crash_told`: clause tells; what `crash_in` asks.
use Rattle.vx_logs.specs.declared.logs.Logs.{Logs}
use Rattle.vx_logimport.proofs.ToldLemmas.{group_told}
use Rattle.vx_logimport.proofs.crashing.crash_told.Goals as goal

pub crash_in-requires-clause-stands : goal.crash_in-requires-clause-stands
crash_in-requires-clause-stands g c = λ κs within. c.requires.stands.stands

pub returns-clause-tells : goal.returns-clause-tells
returns-clause-tells g c = λ v (l : Logs) lt on why.
    let stopped = c.crash_in.ensures.stopped in
    group_told c.args.core.now v l (g.R.Shelf.meaning c.args.rack.now) (g.R.Shelf.meaning c.crash_in.new.rack) c.requires.stands lt on stopped.units stopped.size stopped.leaves why
