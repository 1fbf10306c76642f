-- The disks of a group whose replicated volume group did not start.
use Rattle.std.proofs.Common.{◌∙◌, sym}
use Rattle.vx_diskset.proofs.IdleFalls.{back_bright, back_dark}
use Rattle.vx_diskset.proofs.idles.fell_back.Goals as goal

pub returns-then-is_dark : goal.returns-then-is_dark
returns-then-is_dark g c =
    back_dark c.args.laid c.fell_idle-idle.result c.fell_idle-idle.ensures c.dark_idle.result c.dark_idle.ensures.rack c.dark_idle.ensures.agreed c.dark_idle.ensures.rested (sym c.is_dark.ensures ∙ c.if-is_dark.true)

pub returns-else-is_dark : goal.returns-else-is_dark
returns-else-is_dark g c = back_bright c.args.laid c.fell_idle-idle.result c.fell_idle-idle.ensures (sym c.is_dark.ensures ∙ c.if-is_dark.false)
