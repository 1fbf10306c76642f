-- The loop of `memory_racks` over `step`: what stays true.
use Rattle.std.proofs.Common.{◌≡◌, length}
use Rattle.std.specs.List.{All}
use Rattle.vx_disk.specs.Racks.{Bare}
use Rattle.vx_disk.specs.Meanings.{shelf_meaning}
use Rattle.vx_runs.proofs.racks.memory_racks.Given as goal

abbrev pub invariant-loop-step : goal.invariant-loop-step
invariant-loop-step l = record {
  count : length l.racks.items ≡ l._step;
  bare : All (λ r. Bare (shelf_meaning r)) l.racks.items;
}
