-- `place_whole`: what `take_lowest` asks.
use Rattle.vx_layout.proofs.RoomLemmas.{one_fits}
use Rattle.vx_layout.proofs.columns.place_whole.Goals as goal

pub take_lowest-requires : goal.take_lowest-requires
take_lowest-requires c = one_fits c.args.used.now c.args.disks.now c.rooms_of-rooms.result c.in-Some.disk c.end_of.result c.args.wanted c.as_slice.result.now c.rooms_of-rooms.ensures c.in-Some.ensures c.end_of.ensures
