-- `push_subdisks`: what `push` asks.
use Rattle.std.proofs.Common.{ap, arith, length, length-append, take}
use Rattle.std.proofs.lemmas.List.{length-take}
use Rattle.vx_config.proofs.runs.push_subdisks.Goals as goal

pub push-requires : goal.push-requires
push-requires c = omega (arith, ap length c.loop-subdisk.invariant, length-append c.args.runs.now.items (take c.loop-subdisk.subdisk-index c.args.subdisks.now), length-take c.loop-subdisk.subdisk-index c.args.subdisks.now)
