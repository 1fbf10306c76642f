-- `flush_all`: clause ends.
use Rattle.vx_volume.proofs.TurnLemmas.{by_bits, last_bits}
use Rattle.vx_volume.proofs.volume.flush_all.Goals as goal

pub returns-in-Ok-clause-ends : goal.returns-in-Ok-clause-ends
returns-in-Ok-clause-ends g c = (by_bits c.args.c.now c.args.vol c.in-Ok.flags.failed c.set_of.result _ _ _ c.set_of.ensures c.in-Ok.ensures.ends.0, last_bits c.in-Ok.flags.failed c.set_of.result c.in-Ok.flags.device _ _ c.set_of.ensures c.in-Ok.ensures.ends.1)
