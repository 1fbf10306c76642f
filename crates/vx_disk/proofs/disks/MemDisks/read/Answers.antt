-- `read`: its result.
use Rattle.std.proofs.Common.{◌≡◌, arith, length, ◌*◌, ◌/◌}
use Rattle.vx_disk.proofs.Changes.{read-Read}
use Rattle.vx_disk.proofs.disks.MemDisks.read.Goals as goal

pub returns : goal.returns
returns c =
    let n = length c.args.into.now in
    let whole : n ≡ 512 * (n / 512) = omega (arith, c.requires.whole) in
    read-Read _ c.args.unit c.index.result.now c.requires.exists c.index.ensures _ _ _ c.args.block _ (n / 512) c.read.new.into whole c.read.ensures c.read.auto.into
