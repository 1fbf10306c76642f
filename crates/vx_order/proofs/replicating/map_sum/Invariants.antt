-- The loop of `map_sum` over `name`: what stays true.
use Rattle.std.proofs.Common.{◌≡◌, ◌≤◌, ◌*◌, take}
use Rattle.std.specs.Option.{option_copied}
use Rattle.std.specs.Prelude.{sum_by}
use Rattle.vx_order.specs.Replicating.{maps_named}
use Rattle.vx_order.proofs.replicating.map_sum.Given as goal

abbrev pub invariant-loop-name : goal.invariant-loop-name
invariant-loop-name l = record {
  sum : l.sum ≡ sum_by (maps_named (option_copied l.site)) (take l.name-index l.names);
  few : l.sum ≤ l.name-index * 70368744177664;
}
