-- `numbers_of`: its result; what stays true in its loop.
use Rattle.std.proofs.Common.{◌∷◌, [], length-append, arith}
use Rattle.std.proofs.lemmas.Result.{err_from_is_err_and}
use Rattle.vx_config.specs.Forms.{read_many}
use Rattle.vx_config.specs.Forms.{number}
use Rattle.vx_config.proofs.ManyLemmas.{begins, goes_on, ends, is_done}
use Rattle.vx_config.proofs.reading.numbers_of.Goals as goal

pub loop-init : goal.loop-init
loop-init c = rw c.new-numbers.ensures record {
  so_far = begins (number 1) c.args.count c.args.cursor.now.left.now;
  len = omega arith;
}

pub returns-in_err-u8 : goal.returns-in_err-u8
returns-in_err-u8 c =
    let p = err_from_is_err_and c.from_residual.result c.from_residual.ensures.1 in
    rw (p.1, p.2) (ends (number 1) c.in_err-u8.field-0.0 c.loop.numbers c.args.count c.loop.counter c.loop.cursor.left.now c.u8.new.self.left.now (read_many (number 1) c.args.count c.args.cursor.now.left.now) c.loop-test.true c.in_err-u8.ensures c.loop.invariant.so_far)

pub loop-preserved : goal.loop-preserved
loop-preserved c = rw (c.push.ensures, c.from.ensures) record {
  so_far = goes_on (number 1) c.loop.numbers c.args.count c.loop.counter c.loop.cursor.left.now c.in_ok-u8.field-0 c.u8.new.self.left.now (read_many (number 1) c.args.count c.args.cursor.now.left.now) c.loop-test.true c.in_ok-u8.ensures c.loop.invariant.so_far;
  len = omega (arith, length-append c.loop.numbers (c.in_ok-u8.field-0 ∷ []), c.loop.invariant.len);
}

pub returns : goal.returns
returns c = is_done (number 1) c.loop.numbers c.args.count c.loop.counter c.loop.cursor.left.now (read_many (number 1) c.args.count c.args.cursor.now.left.now) c.loop-test.false c.loop.invariant.so_far
