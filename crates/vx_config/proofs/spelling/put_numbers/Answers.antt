-- `put_numbers`: its result; what stays true in its loop over `number`.
use Rattle.std.proofs.Common.{length}
use Rattle.vx_wire.specs.Numbers.{be_bytes}
use Rattle.vx_config.specs.Forms.{number}
use Rattle.vx_config.proofs.PageLemmas.{many-first, many-more, many-all}
use Rattle.vx_config.proofs.spelling.put_numbers.Goals as goal

pub loop-number-init : goal.loop-number-init
loop-number-init c = many-first (number 1) c.args.page.now c.u8.new.self (be_bytes 1 (length c.args.numbers.now)) c.args.numbers.now c.u8.ensures

pub loop-number-preserved : goal.loop-number-preserved
loop-number-preserved c = many-more (number 1) c.args.page.now c.loop-number.page c.u8-in-loop-number.new.self (be_bytes 1 (length c.args.numbers.now)) c.args.numbers.now c.loop-number.number-index _ c.loop-number-test.true c.loop-number.invariant c.u8-in-loop-number.ensures

pub returns : goal.returns
returns c = many-all (number 1) c.args.page.now c.loop-number.page (be_bytes 1 (length c.args.numbers.now)) c.args.numbers.now c.loop-number.number-index c.loop-number-test.false c.loop-number.invariant
