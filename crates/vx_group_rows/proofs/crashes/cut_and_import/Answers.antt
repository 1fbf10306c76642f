-- `cut_and_import`: what `import_again` asks.
use Rattle.std.proofs.Common.{◌∙◌, sym}
use Rattle.vx_group.proofs.FallenLemmas.{alike_can}
use Rattle.vx_group_rows.proofs.crashes.cut_and_import.Goals as goal

pub import_again-requires-clause-can : goal.import_again-requires-clause-can
import_again-requires-clause-can g c = λ κs within. alike_can (g.R.Shelf.meaning c.revive.new.rack) (g.R.Shelf.meaning c.fuse.new.self) c.fuse.ensures.alike (c.revive.ensures.can (c.crash-rack.ensures.can (sym c.is_agreed.ensures ∙ c.if-not-is_agreed.false)))
