-- The loop of `left_by_volumes` over `volume`: what stays true.
use Rattle.std.proofs.Common.{◌≡◌, ◌+◌, take}
use Rattle.std.specs.Prelude.{sum_by}
use Rattle.vx_config.specs.Configs.{volume_subdisks}
use Rattle.vx_config.proofs.shape.left_by_volumes.Given as goal

abbrev pub invariant-loop-volume : goal.invariant-loop-volume
invariant-loop-volume l = l.left + sum_by volume_subdisks (take l.volume-index l.volumes) ≡ l.room
