-- The loop of `map_sum` over `number`: what stays true.
use Rattle.std.proofs.Common.{◌≡◌, ◌≤◌, ◌*◌, take}
use Rattle.std.specs.Prelude.{sum_by}
use Rattle.vx_config.specs.Checks.{map_blocks_of}
use Rattle.vx_config.proofs.group.map_sum.Given as goal

abbrev pub invariant-loop-number : goal.invariant-loop-number
invariant-loop-number l = record {
  sum : l.sum ≡ sum_by (map_blocks_of l.volumes) (take l.number-index l.numbers);
  few : l.sum ≤ l.number-index * 70368744177664;
}
