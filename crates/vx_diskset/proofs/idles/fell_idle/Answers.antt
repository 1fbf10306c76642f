-- Disks of a group that crash.
use Rattle.std.proofs.Common.{◌∙◌, sym}
use Rattle.vx_diskset.proofs.IdleFalls.{fell_doubted, fell_sure}
use Rattle.vx_diskset.proofs.idles.fell_idle.Goals as goal

pub returns-then-sure : goal.returns-then-sure
returns-then-sure g c =
    fell_sure c.args.pick c.args.laid c.crash-idle.result c.crash-idle.ensures.away c.crash-idle.ensures.stopped c.crash-idle.ensures.agreed c.crash-idle.ensures.disks c.crash-idle.ensures.rests c.crash-idle.ensures.lacking c.crash-idle.ensures.told
    (sym c.is_sure-sure.ensures ∙ c.if-sure.true)

pub returns-else-sure : goal.returns-else-sure
returns-else-sure g c =
    fell_doubted c.args.pick c.args.laid c.crash-idle.result c.crash-idle.ensures.away c.crash-idle.ensures.stopped c.crash-idle.ensures.agreed c.crash-idle.ensures.disks c.crash-idle.ensures.rests c.crash-idle.ensures.lacking c.crash-idle.ensures.told
    c.doubted.result c.doubted.ensures.rack c.doubted.ensures.agreed c.doubted.ensures.rested (sym c.is_sure-sure.ensures ∙ c.if-sure.false)
