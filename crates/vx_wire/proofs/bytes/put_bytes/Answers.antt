-- `put_bytes`: its result.
use Rattle.std.proofs.Common.{arith}
use Rattle.vx_wire.proofs.PlaceLemmas.{put_mid-whole}
use Rattle.vx_wire.proofs.bytes.put_bytes.Goals as goal

pub returns : goal.returns
returns c = put_mid-whole c.args.at _ c.args.part.now c.args.bytes.now _ (omega arith) (omega arith) c.copy_from_slice.ensures.after
