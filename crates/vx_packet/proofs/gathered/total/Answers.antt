-- `total`: its result.
use Rattle.std.proofs.Common.{arith, ◌-◌, length}
use Rattle.vx_packet.proofs.GatherLemmas.{whole_length-last}
use Rattle.vx_packet.proofs.gathered.total.Goals as goal

pub returns : goal.returns
returns c = omega (arith, whole_length-last c.args.lengths.now (length c.args.lengths.now - 1) (omega (arith, c.requires.some)), c.unwrap_or.ensures)
