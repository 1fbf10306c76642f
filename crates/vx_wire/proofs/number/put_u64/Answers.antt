-- `put_u64`: its result.
use Rattle.std.proofs.Common.{arith, refl}
use Rattle.vx_wire.specs.Numbers.{be_bytes}
use Rattle.vx_wire.proofs.PlaceLemmas.{put_mid-is}
use Rattle.vx_wire.proofs.number.put_u64.Goals as goal

pub returns : goal.returns
unfolding be_bytes
returns c = put_mid-is _ _ 8 _ _ _ (omega arith) refl (omega arith) c.write_u64.ensures
