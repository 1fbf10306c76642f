-- The loop of `take_racks` over `disk_set`: what stays true, and what falls.
use Rattle.std.proofs.Common.{◌≡◌, ◌+◌, ◌≤◌, ◌++◌, [], vec_len}
use Rattle.std.specs.Prelude.{reverse}
use Rattle.std.specs.Vec.{vec_capacity}
use Rattle.vx_yard.specs.Racks.{racks_in}
use Rattle.vx_yard.proofs.racks.take_racks.Given as goal

abbrev pub invariant-loop-disk_set : goal.invariant-loop-disk_set
invariant-loop-disk_set g l = l.fn.racks.items ≡ [] → vec_len l.fn.disk_sets ≤ vec_capacity l.fn.racks → record {
  room : vec_len l.racks + vec_len l.disk_sets ≤ vec_capacity l.racks;
  whole : l.racks.items ++ racks_in (reverse l.disk_sets.items) ≡ racks_in l.fn.disk_sets.items;
}

abbrev pub decreases-loop-disk_set : goal.decreases-loop-disk_set
decreases-loop-disk_set g l = vec_len l.disk_sets
