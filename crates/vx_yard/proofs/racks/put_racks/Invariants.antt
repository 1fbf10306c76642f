-- The loop of `put_racks` over `rack`: what stays true, and what falls.
use Rattle.std.proofs.Common.{◌≡◌, ◌+◌, ◌≤◌, ◌++◌, [], vec_len}
use Rattle.std.specs.Prelude.{reverse, map}
use Rattle.std.specs.Vec.{vec_capacity}
use Rattle.vx_diskset.specs.declared.disk_set.DiskSet.TheVariants.{Bare}
use Rattle.vx_yard.proofs.racks.put_racks.Given as goal

abbrev pub invariant-loop-rack : goal.invariant-loop-rack
invariant-loop-rack g l = record {
  racks : vec_capacity l.fn.racks ≤ vec_capacity l.racks;
  filled : l.fn.disk_sets.items ≡ [] → vec_len l.fn.racks ≤ vec_capacity l.fn.disk_sets → record {
    room : vec_len l.disk_sets + vec_len l.racks ≤ vec_capacity l.disk_sets;
    whole : l.disk_sets.items ++ map (λ r. Bare r) (reverse l.racks.items) ≡ map (λ r. Bare r) l.fn.racks.items;
  };
}

abbrev pub decreases-loop-rack : goal.decreases-loop-rack
decreases-loop-rack g l = vec_len l.racks
