-- A crash of a group with logs.
use Rattle.vx_logs.specs.declared.logs.Logs.{Logs}
use Rattle.vx_logged.proofs.TellLemmas.{group_tells, less_tells}
use Rattle.vx_logged.proofs.crashing.crash_logged.Goals as goal

pub crash_in-requires-clause-stands : goal.crash_in-requires-clause-stands
crash_in-requires-clause-stands g c = λ κs within. c.requires.stands.stands

pub returns-clause-tells : goal.returns-clause-tells
returns-clause-tells g c = λ v (l : Logs) lt on.
    let stopped = c.crash_in.ensures.stopped in
    less_tells v (g.R.Shelf.meaning c.args.rack.now) (g.R.Shelf.meaning c.crash_in.new.rack) stopped.units stopped.size stopped.leaves
    (group_tells c.args.core.now v l (g.R.Shelf.meaning c.args.rack.now) c.requires.stands lt on)
