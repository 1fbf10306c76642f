-- The loop of `push_volumes` over `volume`: what stays true.
use Rattle.std.proofs.Common.{◌≡◌, ◌++◌, take}
use Rattle.std.specs.List.{flat_map}
use Rattle.vx_report.specs.Statuses.{volume_lines}
use Rattle.vx_report.proofs.statuses.push_volumes.Given as goal

abbrev pub invariant-loop-volume : goal.invariant-loop-volume
invariant-loop-volume l = l.out.items ≡ l.initial.out.items ++ flat_map volume_lines (take l.volume-index l.volumes)
