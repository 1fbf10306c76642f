-- `read_part`: clauses shows, gave and spends.
use Rattle.std.proofs.Common.{arith}
use Rattle.std.proofs.lemmas.Result.{on_ok_weaker}
use Rattle.vx_ringio.proofs.Seeing.{part_gave, part_shows}
use Rattle.vx_disk.proofs.Spending.{spends_read}
use Rattle.vx_ringio.proofs.reads.read_part.Goals as goal

pub returns-clause-shows : goal.returns-clause-shows
returns-clause-shows g c = on_ok_weaker c.read.result (part_shows _ c.args.ring c.args.first _ _ _ (omega arith) (omega arith) (omega arith)) c.read.ensures.ok

pub returns-clause-gave : goal.returns-clause-gave
returns-clause-gave g c = on_ok_weaker c.read.result (part_gave _ c.args.ring c.args.first _ _ _ (omega arith) (omega arith)) c.read.ensures.ok

pub returns-clause-spends : goal.returns-clause-spends
returns-clause-spends g c = spends_read _ _ c.read.ensures.goes c.read.ensures.down c.read.ensures.disks
