-- `write_all`: clause ends; what `write_plexes` asks.
use Rattle.vx_volume.proofs.PlaceLemmas.{volume_fits}
use Rattle.vx_volume.proofs.TurnLemmas.{by_bits, last_bits}
use Rattle.vx_volume.proofs.volume.write_all.Goals as goal

pub write_plexes-requires-clause-fits : goal.write_plexes-requires-clause-fits
write_plexes-requires-clause-fits g c = volume_fits c.args.c.now c.requires.checked c.args.vol c.args.block _ c.blocks_of-end.result _ c.requires.volume c.requires.within c.blocks_of-end.ensures c.blocks_of-end.type_inv c.requires.disks

pub returns-in-Ok-clause-ends : goal.returns-in-Ok-clause-ends
returns-in-Ok-clause-ends g c = (by_bits c.args.c.now c.args.vol c.in-Ok.flags.failed c.set_of.result _ _ _ c.set_of.ensures c.in-Ok.ensures.ends.0, last_bits c.in-Ok.flags.failed c.set_of.result c.in-Ok.flags.device _ _ c.set_of.ensures c.in-Ok.ensures.ends.1)
