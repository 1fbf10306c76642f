-- `push_volume`: what `push_log` asks.
use Rattle.std.proofs.Common.{◌≡◌, ap, arith, length, length-append}
use Rattle.std.specs.Prelude.{flat_map, sum_by}
use Rattle.vx_config.specs.Checks.{plex_runs, log_runs}
use Rattle.vx_config.specs.Configs.{plex_subdisks, volume_subdisks}
use Rattle.vx_config.proofs.RunLemmas.{plexes-room, log-room}
use Rattle.vx_config.proofs.runs.push_volume.Goals as goal

pub push_log-requires : goal.push_log-requires
push_log-requires c =
    let same : sum_by plex_subdisks c.as_slice.result.now ≡ volume_subdisks c.args.volume.now = ap (sum_by plex_subdisks) c.as_slice.ensures.plexes in
    omega (arith, ap length c.push_plexes.ensures, length-append c.args.runs.now.items (flat_map plex_runs c.as_slice.result.now), plexes-room c.as_slice.result.now, same)

pub push_log-requires-2 : goal.push_log-requires-2
push_log-requires-2 c =
    let same : sum_by plex_subdisks c.as_slice.result.now ≡ volume_subdisks c.args.volume.now = ap (sum_by plex_subdisks) c.as_slice.ensures.plexes in
    omega (
      arith,
      ap length c.push_plexes.ensures,
      length-append c.args.runs.now.items (flat_map plex_runs c.as_slice.result.now),
      plexes-room c.as_slice.result.now,
      same,
      ap length c.push_log.ensures,
      length-append c.push_plexes.new.runs.items (log_runs c.args.volume.now.drl),
      log-room c.args.volume.now.drl,
    )
