-- `push_volumes`: what `push_volume` asks.
use Rattle.std.proofs.Common.{◌≤◌, ◌+◌, sym, subst, length}
use Rattle.vx_config.specs.Checks.{volume_runs, volume_room}
use Rattle.vx_config.specs.declared.entry.VolumeEntry.{VolumeEntry}
use Rattle.vx_config.proofs.RunLemmas.{room-more, volume-room}
use Rattle.vx_config.proofs.runs.push_volumes.Goals as goal

pub push_volume-requires : goal.push_volume-requires
push_volume-requires c =
    let P : VolumeEntry → Type 0 = λ v. length c.loop-volume.runs.items + volume_room v ≤ 1088 in
    subst P (sym c.volume-item.is) (room-more volume_runs volume_room volume-room c.args.runs.now.items c.loop-volume.runs.items c.args.volumes.now c.loop-volume.volume-index _ 1088 c.loop-volume-test.true c.requires c.loop-volume.invariant)
