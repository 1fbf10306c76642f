-- `has_log`: clause spends.
use Rattle.vx_disk.proofs.Spending.{then_spends}
use Rattle.vx_diskset.proofs.starting.has_log.Goals as goal

pub returns-clause-spends : goal.returns-clause-spends
returns-clause-spends g c =
    then_spends (g.R.Shelf.meaning c.args.rack.now) (g.R.Shelf.meaning c.is_log.new.rack) (g.R.Shelf.meaning c.is_log-2.new.rack) c.is_log.ensures.spends c.is_log-2.ensures.spends
