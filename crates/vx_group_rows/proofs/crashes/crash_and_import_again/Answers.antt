-- `crash_and_import_again`: what `import_again` asks.
use Rattle.std.proofs.Common.{◌∙◌, sym}
use Rattle.vx_group_rows.proofs.crashes.crash_and_import_again.Goals as goal

pub import_again-requires-clause-can : goal.import_again-requires-clause-can
import_again-requires-clause-can g c = λ κs within. c.revive.ensures.can (c.crash-rack.ensures.can (sym c.is_agreed.ensures ∙ c.if-not-is_agreed.false))
