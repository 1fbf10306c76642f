-- `write_fronts`: clauses follows, short, names and spends; what stays true in its loop over `k`.
use Rattle.std.proofs.Common.{arith, refl}
use Rattle.std.proofs.lemmas.Result.{err_from_is_err_and}
use Rattle.vx_disk.proofs.Naming.{names_done, names_exit}
use Rattle.vx_srl.proofs.FrontLaws.{cut_follows, one_more, one_written, short_cut, short_more}
use Rattle.vx_disk.proofs.Spending.{then_spends}
use Rattle.vx_srl.proofs.seal.write_fronts.Goals as goal

pub returns-in_err-write_front-clause-follows : goal.returns-in_err-write_front-clause-follows
returns-in_err-write_front-clause-follows g c =
    cut_follows c.args.unit c.args.ring c.args.records.now.items c.args.from c.loop-k.k c.index.result.now c.loop-k.auto.k (omega (arith, c.loop-k-test.true, c.len-k-end.ensures)) c.index.ensures
    _ _ _ c.loop-k.invariant.0 c.write_front.ensures.follows

pub returns-in_err-write_front-clause-short : goal.returns-in_err-write_front-clause-short
returns-in_err-write_front-clause-short g c =
    short_cut c.args.from c.loop-k.k _ c.loop-k.auto.k (omega (arith, c.loop-k-test.true, c.len-k-end.ensures)) _ _ _ c.loop-k.invariant.1 c.loop-k.invariant.2 c.write_front.ensures.short

pub loop-k-preserved : goal.loop-k-preserved
loop-k-preserved g c = (
  one_written c.args.unit c.args.ring c.args.records.now.items c.args.from c.loop-k.k c.index.result.now c.loop-k.auto.k (omega (arith, c.loop-k-test.true, c.len-k-end.ensures)) c.index.ensures
      _ _ _ c.loop-k.invariant.0 c.in_ok-write_front.ensures.follows c.in_ok-write_front.ensures.arrives c.in_ok-write_front.ensures.cause.after,
  one_more c.args.from c.loop-k.k _ c.loop-k.auto.k (omega arith) _ _ _ c.loop-k.invariant.1 c.in_ok-write_front.ensures.calls,
  short_more c.args.from c.loop-k.k _ c.loop-k.auto.k (omega arith) _ _ _ c.loop-k.invariant.1 c.loop-k.invariant.2 c.in_ok-write_front.ensures.short,
  then_spends _ _ _ c.loop-k.invariant.3 c.write_front.ensures.spends,
)

pub returns-in_err-write_front-clause-spends : goal.returns-in_err-write_front-clause-spends
returns-in_err-write_front-clause-spends g c = then_spends _ _ _ c.loop-k.invariant.3 c.write_front.ensures.spends

pub returns-in_err-write_front-clause-names : goal.returns-in_err-write_front-clause-names
returns-in_err-write_front-clause-names g c =
    let p = err_from_is_err_and c.from_residual.result c.from_residual.ensures.1 in
    names_exit (Unit {0}) (Unit {0}) _ _ _ c.args.unit c.args.unit c.from_residual.result p.0 _ p.1 p.2 refl c.loop-k.invariant.3.told c.in_err-write_front.ensures.names

pub returns-clause-names : goal.returns-clause-names
returns-clause-names g c = names_done (Unit {0}) tt (g.S.Shelf.meaning c.args.shelf.now).disks c.args.unit
