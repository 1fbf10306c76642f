-- `import_again`: what the second `import` asks.
use Rattle.vx_group_rows.proofs.crashes.import_again.Goals as goal

pub import-requires-2 : goal.import-requires-2
import-requires-2 g c = record { can = c.revive.ensures.can (c.fall.ensures.can c.in-Err.ensures.again) }
