-- `read`: what `first_of-first`, `read_in_turn` and `next_of-v` ask.
use Rattle.std.proofs.Common.{arith}
use Rattle.vx_volume.proofs.PlaceLemmas.{count_few, volume_fits}
use Rattle.vx_volume.proofs.TurnLemmas.{asked_below, some_plexes}
use Rattle.vx_volume.proofs.volume.read.Goals as goal

pub first_of-first-requires : goal.first_of-first-requires
first_of-first-requires g c = some_plexes c.args.c.now c.requires.checked c.args.v.now.number c.requires.some

pub read_in_turn-requires-clause-fits : goal.read_in_turn-requires-clause-fits
read_in_turn-requires-clause-fits g c = volume_fits c.args.c.now c.requires.checked c.args.v.now.number c.args.block _ c.blocks_of-end.result _ c.requires.volume c.requires.within c.blocks_of-end.ensures c.blocks_of-end.type_inv c.requires.disks

pub read_in_turn-requires-clause-first : goal.read_in_turn-requires-clause-first
read_in_turn-requires-clause-first g c =
    let below = asked_below c.args.c.now c.requires.checked c.args.v.now.number c.args.v.now.next (some_plexes c.args.c.now c.requires.checked c.args.v.now.number c.requires.some) in
    omega (arith, below, c.first_of-first.ensures)

pub read_in_turn-requires-clause-few : goal.read_in_turn-requires-clause-few
read_in_turn-requires-clause-few g c = count_few c.args.c.now c.requires.checked c.args.v.now.number

pub next_of-v-requires-clause-few : goal.next_of-v-requires-clause-few
next_of-v-requires-clause-few g c = count_few c.args.c.now c.requires.checked c.args.v.now.number
