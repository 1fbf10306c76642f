-- `put_disks`: its result; what stays true in its loop over `disk`.
use Rattle.std.proofs.Common.{length}
use Rattle.vx_wire.specs.Numbers.{be_bytes}
use Rattle.vx_config.specs.Table.{disk}
use Rattle.vx_config.proofs.PageLemmas.{many-first, many-more, many-all}
use Rattle.vx_config.proofs.spelling.put_disks.Goals as goal

pub loop-disk-init : goal.loop-disk-init
loop-disk-init c = many-first disk c.args.page.now c.u8.new.self (be_bytes 1 (length c.args.disks.now)) c.args.disks.now c.u8.ensures

pub loop-disk-preserved : goal.loop-disk-preserved
loop-disk-preserved c = many-more disk c.args.page.now c.loop-disk.page c.put_disk.new.page (be_bytes 1 (length c.args.disks.now)) c.args.disks.now c.loop-disk.disk-index _ c.loop-disk-test.true c.loop-disk.invariant c.put_disk.ensures

pub returns : goal.returns
returns c = many-all disk c.args.page.now c.loop-disk.page (be_bytes 1 (length c.args.disks.now)) c.args.disks.now c.loop-disk.disk-index c.loop-disk-test.false c.loop-disk.invariant
