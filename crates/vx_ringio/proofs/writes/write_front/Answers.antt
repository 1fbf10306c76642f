-- `write_front`: clauses follows, arrives and spends.
use Rattle.std.proofs.Common.{arith}
use Rattle.std.proofs.lemmas.Result.{on_ok_weaker}
use Rattle.vx_ringio.proofs.Classing.{class_front, one_follows, one_arrives}
use Rattle.vx_disk.proofs.Spending.{spends_write}
use Rattle.vx_ringio.proofs.writes.write_front.Goals as goal

pub returns-clause-follows : goal.returns-clause-follows
returns-clause-follows g c =
    one_follows c.args.unit c.args.ring _ _ _ c.put_record.array_long (omega arith) (class_front c.args.ring _ _ c.put_record.ensures) _ _ c.write.ensures.goes

pub returns-clause-arrives : goal.returns-clause-arrives
returns-clause-arrives g c = on_ok_weaker c.write.result
    (one_arrives c.args.unit c.args.ring _ _ _ c.put_record.array_long (omega arith) (class_front c.args.ring _ _ c.put_record.ensures) _ _ c.write.ensures.goes)
    c.write.ensures.ok

pub returns-clause-spends : goal.returns-clause-spends
returns-clause-spends g c = spends_write _ _ _ _ _ c.write.result c.write.ensures.goes c.write.ensures.cause c.write.ensures.disks
