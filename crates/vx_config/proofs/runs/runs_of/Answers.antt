-- `runs_of`: what `push_volumes` asks.
use Rattle.std.proofs.Common.{◌≡◌, ap, arith, length}
use Rattle.std.specs.Prelude.{sum_by}
use Rattle.vx_config.specs.Checks.{volume_room}
use Rattle.vx_config.proofs.RunLemmas.{volumes-room}
use Rattle.vx_config.proofs.runs.runs_of.Goals as goal

pub push_volumes-requires : goal.push_volumes-requires
push_volumes-requires c =
    let same : sum_by volume_room c.as_slice.result.now ≡ sum_by volume_room c.args.config.now.volumes = ap (sum_by volume_room) c.as_slice.ensures.volumes in
    omega (arith, same, volumes-room c.args.config.now.volumes, c.as_slice.ensures.few, ap length c.new-runs.ensures)
