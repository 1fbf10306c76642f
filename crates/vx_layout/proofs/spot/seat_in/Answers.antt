-- A seat in the subdisks is one in the plex: within a unit blocks stand one behind the other.
use Rattle.std.proofs.Common.{◌≡◌, arith, ap}
use Rattle.std.specs.Prelude.{sum_by}
use Rattle.vx_layout.specs.Places.{subdisk_blocks}
use Rattle.vx_layout.proofs.Placing.{linear_within, run_in}
use Rattle.vx_layout.proofs.spot.seat_in.Goals as goal

pub locate-seat-requires : goal.locate-seat-requires
locate-seat-requires c = record {
  inside =
      let within = linear_within c.args.volume.now c.args.plex.now c.args.block c.requires.filled c.requires.block in
      let same : sum_by subdisk_blocks c.as_slice.result.now ≡ sum_by subdisk_blocks c.args.plex.now.subdisks = ap (sum_by subdisk_blocks) c.as_slice.ensures.subdisks in
      omega (arith, within, same, c.linear.ensures);
}

pub returns-clause-run : goal.returns-clause-run
returns-clause-run c = run_in c.args.volume.now c.args.plex.now c.args.block c.as_slice.result.now c.linear.result c.locate-seat.result c.unit_left.result c.min.result c.as_slice.ensures.subdisks c.linear.ensures c.locate-seat.ensures.run c.unit_left.ensures.unit c.min.ensures
