-- `plexes_of`: its result; what stays true in its loop.
use Rattle.std.proofs.Common.{◌∷◌, [], length-append, arith}
use Rattle.std.proofs.lemmas.Result.{err_from_is_err_and}
use Rattle.vx_config.specs.Forms.{read_many}
use Rattle.vx_config.specs.Table.{plex}
use Rattle.vx_config.proofs.ManyLemmas.{begins, goes_on, ends, is_done}
use Rattle.vx_config.proofs.reading.plexes_of.Goals as goal

pub loop-init : goal.loop-init
loop-init c = rw c.new-plexes.ensures record {
  so_far = begins plex c.args.count c.args.cursor.now.left.now;
  len = omega arith;
}

pub returns-in_err-plex : goal.returns-in_err-plex
returns-in_err-plex c =
    let p = err_from_is_err_and c.from_residual.result c.from_residual.ensures.1 in
    rw (p.1, p.2) (ends plex c.in_err-plex.field-0.0 c.loop.plexes c.args.count c.loop.counter c.loop.cursor.left.now c.plex.new.cursor.left.now (read_many plex c.args.count c.args.cursor.now.left.now) c.loop-test.true c.in_err-plex.ensures c.loop.invariant.so_far)

pub loop-preserved : goal.loop-preserved
loop-preserved c = rw c.in_ok-push.ensures record {
  so_far = goes_on plex c.loop.plexes c.args.count c.loop.counter c.loop.cursor.left.now c.in_ok-plex.field-0 c.plex.new.cursor.left.now (read_many plex c.args.count c.args.cursor.now.left.now) c.loop-test.true c.in_ok-plex.ensures c.loop.invariant.so_far;
  len = omega (arith, length-append c.loop.plexes (c.in_ok-plex.field-0 ∷ []), c.loop.invariant.len);
}

pub returns : goal.returns
returns c = is_done plex c.loop.plexes c.args.count c.loop.counter c.loop.cursor.left.now (read_many plex c.args.count c.args.cursor.now.left.now) c.loop-test.false c.loop.invariant.so_far
