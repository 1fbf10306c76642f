-- `crash_and_import`: what `import` asks.
use Rattle.std.proofs.Common.{◌∙◌, sym}
use Rattle.vx_group_rows.proofs.crashes.crash_and_import.Goals as goal

pub import-requires : goal.import-requires
import-requires g c = record { can = c.revive.ensures.can (c.crash-rack.ensures.can (sym c.is_agreed.ensures ∙ c.if-not-is_agreed.false)) }
