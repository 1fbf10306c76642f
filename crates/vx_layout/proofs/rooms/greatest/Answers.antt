-- `greatest`: what stays true in its loop over `disk`.
use Rattle.vx_layout.proofs.RoomLemmas.{most_more}
use Rattle.vx_layout.proofs.rooms.greatest.Goals as goal

pub loop-disk-preserved : goal.loop-disk-preserved
loop-disk-preserved c = most_more c.args.rooms.now c.loop-disk.disk c.loop-disk.most c.max-most.result c.loop-disk-test.true c.loop-disk.invariant c.max-most.ensures
