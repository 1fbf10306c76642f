-- The volume and the plex that are looked up are those of the configuration.
use Rattle.vx_layout.proofs.Placing.{block_in, got, none_got, place_run, plex_filled, plex_there, seat_region, volume_there}
use Rattle.vx_layout.proofs.spot.find_spot.Goals as goal

pub unreachable-requires-in-None : goal.unreachable-requires-in-None
unreachable-requires-in-None c = volume_there c.args.config.now c.args.vol c.args.plex c.args.block c.requires.there (none_got c.args.config.now.volumes c.as_slice.result.now c.args.vol c.as_slice.ensures.volumes c.in-None.ensures.lookup.3)

pub unreachable-requires : goal.unreachable-requires
unreachable-requires c =
    let l = c.in-Some.ensures.lookup in
    let at_v = got c.args.config.now.volumes c.as_slice.result.now c.args.vol c.in-Some.volume.now c.as_slice.ensures.volumes l.3.0 l.1 in
    plex_there c.args.config.now c.requires.checked c.args.vol c.args.plex c.args.block c.requires.there c.in-Some.volume.now at_v
    (none_got c.in-Some.volume.now.plexes c.as_slice-in-Some.result.now c.args.plex c.as_slice-in-Some.ensures.plexes c.in-None-get.ensures.lookup.3)

pub seat_in-requires-clause-filled : goal.seat_in-requires-clause-filled
seat_in-requires-clause-filled c =
    let l = c.in-Some.ensures.lookup in
    let k = c.in-Some-get.ensures.lookup in
    let at_v = got c.args.config.now.volumes c.as_slice.result.now c.args.vol c.in-Some.volume.now c.as_slice.ensures.volumes l.3.0 l.1 in
    let at_p = got c.in-Some.volume.now.plexes c.as_slice-in-Some.result.now c.args.plex c.in-Some-get.entry.now c.as_slice-in-Some.ensures.plexes k.3.0 k.1 in
    plex_filled c.args.config.now c.requires.checked c.args.vol c.args.plex c.args.block c.requires.there c.in-Some.volume.now at_v c.in-Some-get.entry.now at_p

pub seat_in-requires-clause-block : goal.seat_in-requires-clause-block
seat_in-requires-clause-block c =
    let l = c.in-Some.ensures.lookup in
    block_in c.args.config.now c.requires.checked c.args.vol c.args.plex c.args.block c.requires.there c.in-Some.volume.now (got c.args.config.now.volumes c.as_slice.result.now c.args.vol c.in-Some.volume.now c.as_slice.ensures.volumes l.3.0 l.1)

pub spot_of-requires-clause-region : goal.spot_of-requires-clause-region
spot_of-requires-clause-region c =
    let l = c.in-Some.ensures.lookup in
    let k = c.in-Some-get.ensures.lookup in
    let at_v = got c.args.config.now.volumes c.as_slice.result.now c.args.vol c.in-Some.volume.now c.as_slice.ensures.volumes l.3.0 l.1 in
    let at_p = got c.in-Some.volume.now.plexes c.as_slice-in-Some.result.now c.args.plex c.in-Some-get.entry.now c.as_slice-in-Some.ensures.plexes k.3.0 k.1 in
    seat_region c.args.config.now c.requires.checked c.args.vol c.args.plex c.args.block c.requires.there c.in-Some.volume.now at_v c.in-Some-get.entry.now at_p
    c.as_slice-in-Some-get.result.now c.seat_in.result c.as_slice-in-Some-get.ensures.disks c.seat_in.ensures.seat

pub returns-clause-run : goal.returns-clause-run
returns-clause-run c =
    let l = c.in-Some.ensures.lookup in
    let k = c.in-Some-get.ensures.lookup in
    let at_v = got c.args.config.now.volumes c.as_slice.result.now c.args.vol c.in-Some.volume.now c.as_slice.ensures.volumes l.3.0 l.1 in
    let at_p = got c.in-Some.volume.now.plexes c.as_slice-in-Some.result.now c.args.plex c.in-Some-get.entry.now c.as_slice-in-Some.ensures.plexes k.3.0 k.1 in
    place_run c.args.config.now c.requires.checked c.args.vol c.args.plex c.args.block c.requires.there c.in-Some.volume.now at_v c.in-Some-get.entry.now at_p
    c.seat_in.result c.spot_of.result c.seat_in.ensures.run c.spot_of.ensures.disk c.spot_of.ensures.at c.spot_of.ensures.reach
