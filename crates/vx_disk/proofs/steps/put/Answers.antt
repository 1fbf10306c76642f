-- `put`: clauses goes, kept, holds, spends and names.
use Rattle.std.proofs.Common.{Ok, Err, Result, OnOk, refl}
use Rattle.std.proofs.lemmas.Result.{err_from_is_err_and}
use Rattle.vx_disk.proofs.Runs.{then_nothing, wrote_HoldsAll, flush_HoldsAll, flush_KeepsAll}
use Rattle.vx_disk.proofs.Causing.{ok_up}
use Rattle.vx_disk.proofs.Naming.{names_before, names_exit}
use Rattle.vx_disk.proofs.Spending.{spends_flush, spends_none, spends_write, then_spends}
use Rattle.vx_disk.proofs.steps.put.Goals as goal

on_ok : {T E : Type 0} {P Q : Type 0} (r : Result T E) → OnOk r P → (P → Q) → OnOk r Q
on_ok (Ok x) p f = f p
on_ok (Err e) p f = tt

pub returns-clause-goes : goal.returns-clause-goes
returns-clause-goes g c = then_nothing _ _ _ _ c.write.ensures.goes c.flush.ensures.goes

pub returns-clause-kept : goal.returns-clause-kept
returns-clause-kept g c = on_ok c.flush.result c.flush.ensures.ok (λ flushed. flush_KeepsAll _ _ _ _ _ flushed (wrote_HoldsAll _ _ _ _ _ c.in_ok-write.ensures.ok))

pub returns-clause-holds : goal.returns-clause-holds
returns-clause-holds g c = on_ok c.flush.result (ok_up _ _ _ c.flush.result c.flush.ensures.cause) (λ up. flush_HoldsAll _ _ _ _ _ c.flush.ensures.goes up.after (wrote_HoldsAll _ _ _ _ _ c.in_ok-write.ensures.ok))

pub returns-in_err-write-clause-spends : goal.returns-in_err-write-clause-spends
returns-in_err-write-clause-spends g c = spends_write _ _ _ _ _ c.write.result c.write.ensures.goes c.write.ensures.cause c.write.ensures.disks

pub returns-clause-spends : goal.returns-clause-spends
returns-clause-spends g c = then_spends _ _ _ (spends_write _ _ _ _ _ c.write.result c.write.ensures.goes c.write.ensures.cause c.write.ensures.disks) (spends_flush _ _ _ c.flush.result c.flush.ensures.goes c.flush.ensures.cause c.flush.ensures.disks)

pub returns-in_err-write-clause-names : goal.returns-in_err-write-clause-names
returns-in_err-write-clause-names g c =
    let p = err_from_is_err_and c.from_residual.result c.from_residual.ensures.1 in
    names_exit (Unit {0}) (Unit {0}) _ _ _ _ _ c.from_residual.result p.0 _ p.1 p.2 refl (spends_none (g.S.Shelf.meaning c.args.shelf.now)).told c.in_err-write.ensures.names

pub returns-clause-names : goal.returns-clause-names
returns-clause-names g c =
    names_before (Unit {0}) _ _ _ _ c.flush.result (spends_write _ _ _ _ _ c.write.result c.write.ensures.goes c.write.ensures.cause c.write.ensures.disks).told c.flush.ensures.names
