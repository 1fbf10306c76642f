-- `put_subdisks`: its result; what stays true in its loop over `subdisk`.
use Rattle.std.proofs.Common.{length}
use Rattle.vx_wire.specs.Numbers.{be_bytes}
use Rattle.vx_config.specs.Table.{subdisk}
use Rattle.vx_config.proofs.PageLemmas.{many-first, many-more, many-all}
use Rattle.vx_config.proofs.spelling.put_subdisks.Goals as goal

pub loop-subdisk-init : goal.loop-subdisk-init
loop-subdisk-init c = many-first subdisk c.args.page.now c.u8.new.self (be_bytes 1 (length c.args.subdisks.now)) c.args.subdisks.now c.u8.ensures

pub loop-subdisk-preserved : goal.loop-subdisk-preserved
loop-subdisk-preserved c = many-more subdisk c.args.page.now c.loop-subdisk.page c.put_subdisk.new.page (be_bytes 1 (length c.args.subdisks.now)) c.args.subdisks.now c.loop-subdisk.subdisk-index _ c.loop-subdisk-test.true c.loop-subdisk.invariant c.put_subdisk.ensures

pub returns : goal.returns
returns c = many-all subdisk c.args.page.now c.loop-subdisk.page (be_bytes 1 (length c.args.subdisks.now)) c.args.subdisks.now c.loop-subdisk.subdisk-index c.loop-subdisk-test.false c.loop-subdisk.invariant
