-- `volumes_of`: its result; what stays true in its loop.
use Rattle.std.proofs.Common.{◌∷◌, [], length-append, arith}
use Rattle.std.proofs.lemmas.Result.{err_from_is_err_and}
use Rattle.vx_config.specs.Forms.{read_many}
use Rattle.vx_config.specs.Table.{volume}
use Rattle.vx_config.proofs.ManyLemmas.{begins, goes_on, ends, is_done}
use Rattle.vx_config.proofs.reading.volumes_of.Goals as goal

pub loop-init : goal.loop-init
loop-init c = rw c.new-volumes.ensures record {
  so_far = begins volume c.args.count c.args.cursor.now.left.now;
  len = omega arith;
}

pub returns-in_err-volume : goal.returns-in_err-volume
returns-in_err-volume c =
    let p = err_from_is_err_and c.from_residual.result c.from_residual.ensures.1 in
    rw (p.1, p.2) (ends volume c.in_err-volume.field-0.0 c.loop.volumes c.args.count c.loop.counter c.loop.cursor.left.now c.volume.new.cursor.left.now (read_many volume c.args.count c.args.cursor.now.left.now) c.loop-test.true c.in_err-volume.ensures c.loop.invariant.so_far)

pub loop-preserved : goal.loop-preserved
loop-preserved c = rw c.in_ok-push.ensures record {
  so_far = goes_on volume c.loop.volumes c.args.count c.loop.counter c.loop.cursor.left.now c.in_ok-volume.field-0 c.volume.new.cursor.left.now (read_many volume c.args.count c.args.cursor.now.left.now) c.loop-test.true c.in_ok-volume.ensures c.loop.invariant.so_far;
  len = omega (arith, length-append c.loop.volumes (c.in_ok-volume.field-0 ∷ []), c.loop.invariant.len);
}

pub returns : goal.returns
returns c = is_done volume c.loop.volumes c.args.count c.loop.counter c.loop.cursor.left.now (read_many volume c.args.count c.args.cursor.now.left.now) c.loop-test.false c.loop.invariant.so_far
