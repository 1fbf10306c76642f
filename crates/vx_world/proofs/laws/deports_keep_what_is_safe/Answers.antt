-- `deports_keep_what_is_safe`: its result.
use Rattle.std.proofs.Common.{arith}
use Rattle.vx_world.proofs.laws.deports_keep_what_is_safe.Goals as goal

pub returns : goal.returns
returns c = λ w s sound. omega (arith, (sound.good.nodes s).safe_fits)
