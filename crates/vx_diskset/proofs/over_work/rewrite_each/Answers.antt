-- Volumes that are written as they read.
use Rattle.std.proofs.Common.{arith}
use Rattle.std.specs.Prelude.{slice_index}
use Rattle.vx_diskset.proofs.Rewriting.{is_among, rewrite_done, rewrite_fails, rewrite_more, rewrite_none}
use Rattle.vx_diskset.proofs.over_work.rewrite_each.Goals as goal

pub loop-k-init : goal.loop-k-init
loop-k-init g c = rewrite_none c.args.volumes.now (g.S.Shelf.meaning c.args.shelf.now)

pub write_over-requires : goal.write_over-requires
write_over-requires g c = record {
  there =
      let low = c.requires (slice_index c.args.volumes.now c.loop-k.k) (is_among c.args.volumes.now c.loop-k.k c.loop-k-test.true) in
      let units = c.loop-k.invariant.goes.units in
      omega (arith, low, units);
}

pub loop-k-preserved : goal.loop-k-preserved
loop-k-preserved g c =
    rewrite_more c.args.volumes.now c.loop-k.k (g.S.Shelf.meaning c.args.shelf.now) (g.S.Shelf.meaning c.loop-k.shelf) (g.S.Shelf.meaning c.write_over.new.shelf) c.loop-k.invariant c.write_over.ensures.goes c.in-Ok.ensures.one

pub returns-in-Err : goal.returns-in-Err
returns-in-Err g c =
    rewrite_fails c.args.volumes.now c.loop-k.k (g.S.Shelf.meaning c.args.shelf.now) (g.S.Shelf.meaning c.loop-k.shelf) (g.S.Shelf.meaning c.write_over.new.shelf) c.loop-k.invariant c.write_over.ensures.goes c.in-Err.error c.in-Err.ensures.cause

pub returns : goal.returns
returns g c = rewrite_done c.args.volumes.now c.loop-k.k (g.S.Shelf.meaning c.args.shelf.now) (g.S.Shelf.meaning c.loop-k.shelf) (omega (arith, c.loop-k-test.false)) c.loop-k.invariant
