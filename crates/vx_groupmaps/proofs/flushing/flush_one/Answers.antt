-- The disks of a plex that goes by its map.
use Rattle.std.proofs.Common.{◌≡◌, length, ap, arith}
use Rattle.vx_groupmaps.proofs.FlushLemmas.{mapped_flushed}
use Rattle.vx_groupmaps.proofs.flushing.flush_one.Goals as goal

pub returns-clause-ok : goal.returns-clause-ok
returns-clause-ok g c =
    let long : length c.as_slice.result.now ≡ length c.args.config.now.disks = ap length c.as_slice.ensures.disks in
    mapped_flushed c.args.config.now c.requires.checked c.args.vol c.args.plex c.requires.mapped c.loop-disk.disk _ _ (omega (arith, long, c.loop-disk-test.false)) c.loop-disk.invariant
