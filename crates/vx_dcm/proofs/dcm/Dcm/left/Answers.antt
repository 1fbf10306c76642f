-- The marks of all volumes are few.
use Rattle.std.proofs.Common.{◌+◌, ◌≤◌, length, arith}
use Rattle.vx_dcm.proofs.Tallies.{left_bound, left_more}
use Rattle.vx_dcm.proofs.dcm.Dcm.left.Goals as goal

pub overflow_add-total : goal.overflow_add-total
overflow_add-total c =
    let within : c.loop-vol.vol + 1 ≤ length c.self.inside.sizes.items = omega (arith, c.loop-vol-test.true, c.len-vol-end.ensures.value) in
    let few = left_bound (record { map = c.self.inside.map; sizes = c.self.inside.sizes.items }) c.args.self.now c.self.view_is c.args.slot (c.loop-vol.vol + 1) c.self.inside.stride within c.self.invariant.stride_is in
    let step = left_more c.args.self.now c.args.slot c.loop-vol.vol in
    omega (arith, few, step, c.loop-vol.invariant, c.left_in-total.ensures, c.self.invariant.few)
