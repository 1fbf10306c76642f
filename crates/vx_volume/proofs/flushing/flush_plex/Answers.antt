-- `flush_plex`: clause ok.
use Rattle.std.proofs.Common.{◌≡◌, length, ap, arith}
use Rattle.vx_volume.proofs.EveryLemmas.{flushed_all}
use Rattle.vx_volume.proofs.flushing.flush_plex.Goals as goal

pub returns-clause-ok : goal.returns-clause-ok
returns-clause-ok g c =
    let long : length c.as_slice.result.now ≡ length c.args.config.now.disks = ap length c.as_slice.ensures.disks in
    flushed_all c.args.config.now c.requires.checked c.args.vol c.args.plex c.loop-disk.disk _ _ c.requires.is_on (omega (arith, long, c.loop-disk-test.false)) c.loop-disk.invariant
