-- The loop of `held_from` over `run`: what stays true.
use Rattle.std.proofs.Common.{◌≡◌, false, take}
use Rattle.std.specs.List.{list_any}
use Rattle.vx_layout.specs.Free.{holds}
use Rattle.vx_layout.proofs.gap.held_from.Given as goal

abbrev pub invariant-loop-run : goal.invariant-loop-run
invariant-loop-run l = list_any (holds l.disk l.block) (take l.run-index l.used) ≡ false
