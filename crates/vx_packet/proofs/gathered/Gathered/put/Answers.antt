-- `put`: what `keep` asks.
use Rattle.std.proofs.Common.{arith, ap, length, take}
use Rattle.std.proofs.lemmas.List.{length-take}
use Rattle.vx_packet.proofs.GatherLemmas.{length-came}
use Rattle.vx_packet.proofs.gathered.Gathered.put.Goals as goal

pub keep-requires-clause-part : goal.keep-requires-clause-part
keep-requires-clause-part c =
    omega (arith, c.requires.part, ap length c.self.view_is, length-came (take c.self.inside.count c.self.inside.lengths.items) c.self.inside.buffer.items, length-take c.self.inside.count c.self.inside.lengths.items)

pub keep-requires-clause-whole : goal.keep-requires-clause-whole
keep-requires-clause-whole c h =
    c.requires.whole (omega (arith, ap length c.self.view_is, length-came (take c.self.inside.count c.self.inside.lengths.items) c.self.inside.buffer.items, length-take c.self.inside.count c.self.inside.lengths.items))
