-- The same, where they tell nothing any more.
use Rattle.vx_diskset.proofs.IdleFalls.{back_darkened}
use Rattle.vx_diskset.proofs.idles.fell_dark.Goals as goal

pub returns : goal.returns
returns g c = back_darkened c.args.laid c.fell_idle-idle.result c.fell_idle-idle.ensures c.args.rested c.dark_idle.result c.dark_idle.ensures.rack c.dark_idle.ensures.agreed c.dark_idle.ensures.rested
