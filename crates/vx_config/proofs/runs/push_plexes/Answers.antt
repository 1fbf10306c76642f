-- `push_plexes`: what `push_subdisks` asks.
use Rattle.std.proofs.Common.{◌≤◌, ◌+◌, ap, sym, subst, arith, length}
use Rattle.vx_config.specs.Checks.{plex_runs}
use Rattle.vx_config.specs.Configs.{plex_subdisks}
use Rattle.vx_config.specs.declared.entry.PlexEntry.{PlexEntry}
use Rattle.vx_config.proofs.RunLemmas.{room-more, plex-room}
use Rattle.vx_config.proofs.runs.push_plexes.Goals as goal

pub push_subdisks-requires : goal.push_subdisks-requires
push_subdisks-requires c =
    let P : PlexEntry → Type 0 = λ p. length c.loop-plex.runs.items + plex_subdisks p ≤ 1088 in
    let room : P c.plex-item.result =
    subst P (sym c.plex-item.is) (room-more plex_runs plex_subdisks plex-room c.args.runs.now.items c.loop-plex.runs.items c.args.plexes.now c.loop-plex.plex-index _ 1088 c.loop-plex-test.true c.requires c.loop-plex.invariant) in
    omega (arith, room, ap length c.as_slice.ensures.subdisks)
