-- `recover`: what `resync` asks.
use Rattle.vx_resync.proofs.PickLemmas.{all_active, any_source}
use Rattle.vx_resync.proofs.resync.recover.Goals as goal

pub resync-requires-clause-some : goal.resync-requires-clause-some
resync-requires-clause-some g c = any_source c.args.c.now c.args.vol c.requires.some

pub resync-requires-clause-active : goal.resync-requires-clause-active
resync-requires-clause-active g c = all_active c.args.c.now c.args.vol
