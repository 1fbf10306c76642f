-- `blank_chunk`: clauses ok and spends.
use Rattle.std.proofs.lemmas.Result.{on_ok_weaker}
use Rattle.vx_ringio.proofs.Blanks.{chunk_more}
use Rattle.vx_disk.proofs.Spending.{spends_write}
use Rattle.vx_ringio.proofs.blank.blank_chunk.Goals as goal

pub returns-clause-ok : goal.returns-clause-ok
returns-clause-ok g c = on_ok_weaker c.write.result (chunk_more c.args.unit c.args.used c.args.chunk _ _ _ c.min-count.ensures c.requires.chunk) c.write.ensures.ok

pub returns-clause-spends : goal.returns-clause-spends
returns-clause-spends g c = spends_write _ _ _ _ _ c.write.result c.write.ensures.goes c.write.ensures.cause c.write.ensures.disks
