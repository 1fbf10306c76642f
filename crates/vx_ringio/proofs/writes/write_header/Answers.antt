-- `write_header`: clauses follows, arrives, spends, aside, works and names.
use Rattle.std.proofs.Common.{arith}
use Rattle.std.proofs.lemmas.Result.{on_ok_weaker}
use Rattle.vx_ringio.proofs.Classing.{class_top, one_follows, flushed_follows, flushed_arrives}
use Rattle.vx_ringio.proofs.Following.{sooner}
use Rattle.vx_disk.proofs.Naming.{names_before}
use Rattle.vx_disk.proofs.Spending.{on_always, spends_write, then_spends}
use Rattle.vx_ringio.proofs.Aside.{aside_flushed, header_aside}
use Rattle.vx_ringio.proofs.writes.write_header.Goals as goal

pub returns-in_err-write-clause-follows : goal.returns-in_err-write-clause-follows
returns-in_err-write-clause-follows g c =
    sooner c.args.unit c.args.ring _ _ _ _
    (one_follows c.args.unit c.args.ring _ _ _ c.put_header.array_long (omega arith) (class_top c.args.ring _ _ c.put_header.ensures c.requires.of_ring) _ _ c.write.ensures.goes)

pub returns-clause-follows : goal.returns-clause-follows
returns-clause-follows g c =
    flushed_follows c.args.unit c.args.ring _ _ _ c.put_header.array_long (omega arith) (class_top c.args.ring _ _ c.put_header.ensures c.requires.of_ring) _ _ c.write.ensures.goes
    _ c.in_ok-write.ensures.ok (c.flush_ring.ensures.follows c.args.ring)

pub returns-clause-arrives : goal.returns-clause-arrives
returns-clause-arrives g c = on_ok_weaker c.flush_ring.result
    (λ flush. flushed_arrives c.args.unit c.args.ring _ _ _ c.put_header.array_long (omega arith) (class_top c.args.ring _ _ c.put_header.ensures c.requires.of_ring) _ _ c.write.ensures.goes
    _ c.in_ok-write.ensures.ok (flush c.args.ring))
    c.flush_ring.ensures.arrives

pub returns-in_err-write-clause-spends : goal.returns-in_err-write-clause-spends
returns-in_err-write-clause-spends g c = spends_write _ _ _ _ _ c.write.result c.write.ensures.goes c.write.ensures.cause c.write.ensures.disks

pub returns-clause-spends : goal.returns-clause-spends
returns-clause-spends g c = then_spends _ _ _ (spends_write _ _ _ _ _ c.write.result c.write.ensures.goes c.write.ensures.cause c.write.ensures.disks) c.flush_ring.ensures.spends

pub returns-in_err-write-clause-aside : goal.returns-in_err-write-clause-aside
returns-in_err-write-clause-aside g c = header_aside _ _ _ _ _ c.put_header.array_long (omega arith) c.write.ensures.goes

pub returns-clause-aside : goal.returns-clause-aside
returns-clause-aside g c = aside_flushed _ _ _ _ (header_aside _ _ _ _ _ c.put_header.array_long (omega arith) c.write.ensures.goes) c.flush_ring.ensures.goes

pub returns-clause-works : goal.returns-clause-works
returns-clause-works g c = on_always c.flush_ring.result c.in_ok-write.ensures.works

pub returns-clause-names : goal.returns-clause-names
returns-clause-names g c = names_before (Unit {0}) _ _ _ _ c.flush_ring.result c.write.ensures.disks c.flush_ring.ensures.names
