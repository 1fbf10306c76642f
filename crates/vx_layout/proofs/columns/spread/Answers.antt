-- `spread`: its result; what `take_lowest` asks; what stays true in its loop over `disk`.
use Rattle.std.proofs.Common.{◌≡◌, arith}
use Rattle.std.specs.Prelude.{min}
use Rattle.vx_layout.specs.Space.{disk_room}
use Rattle.vx_layout.proofs.RoomLemmas.{room_free, spread_end, spread_more, spread_start}
use Rattle.vx_layout.proofs.columns.spread.Goals as goal

pub loop-disk-init : goal.loop-disk-init
loop-disk-init c = spread_start c.args.used.now c.args.disks.now (disk_room c.args.used.now c.args.disks.now c.args.found.now.items) c.args.wanted c.args.found.now.items c.requires.enough

pub take_lowest-requires : goal.take_lowest-requires
take_lowest-requires c =
    let r = c.requires.rooms.each c.loop-disk.disk c.loop-disk-test.true in
    room_free c.args.used.now c.args.disks.now c.args.found.now.items c.loop-disk.disk c.end_of.result c.min-blocks.result c.end_of.ensures (omega (arith, r, c.min-blocks.ensures))

pub loop-disk-preserved : goal.loop-disk-preserved
loop-disk-preserved c =
    let r = c.requires.rooms.each c.loop-disk.disk c.loop-disk-test.true in
    let part : c.min-blocks.result ≡ min c.loop-disk.left (disk_room c.args.used.now c.args.disks.now c.args.found.now.items c.loop-disk.disk) = omega (arith, r, c.min-blocks.ensures) in
    spread_more c.args.used.now c.args.disks.now (disk_room c.args.used.now c.args.disks.now c.args.found.now.items) c.loop-disk.disk c.end_of.result c.args.wanted c.loop-disk.left c.min-blocks.result c.args.found.now.items c.loop-disk.found.items c.take_lowest.new.found.items
    c.loop-disk-test.true c.loop-disk.invariant c.end_of.ensures part c.in_ok-take_lowest.ensures

pub returns : goal.returns
returns c = spread_end c.args.used.now c.args.disks.now (disk_room c.args.used.now c.args.disks.now c.args.found.now.items) c.loop-disk.disk c.args.wanted c.loop-disk.left c.args.found.now.items c.loop-disk.found.items c.loop-disk-test.false c.loop-disk.invariant
