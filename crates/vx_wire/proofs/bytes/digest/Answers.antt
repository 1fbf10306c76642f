-- `digest`: its result.
use Rattle.vx_wire.specs.Seals.{digest_of}
use Rattle.vx_wire.proofs.bytes.digest.Goals as goal

pub returns : goal.returns
unfolding digest_of
returns c = c.digest.ensures
