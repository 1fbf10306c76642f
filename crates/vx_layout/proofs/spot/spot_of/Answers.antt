-- The subdisk ends within the disk that was looked up.
use Rattle.std.proofs.Common.{arith, refl}
use Rattle.vx_layout.proofs.Placing.{ends_in, got}
use Rattle.vx_layout.proofs.spot.spot_of.Goals as goal

pub overflow_add-result : goal.overflow_add-result
overflow_add-result c =
    let l = c.in-Some.ensures.lookup in
    let end = ends_in c.args.disks.now c.args.seat.subdisk c.in-Some.disk.now c.requires.region (got c.args.disks.now c.args.disks.now c.args.seat.subdisk.disk c.in-Some.disk.now refl l.3.0 l.1) in
    omega (arith, end, c.requires.inside, c.size_of-end.ensures, c.size_of-end.type_inv)
