-- What the log of a site over a group keeps of it.
use Rattle.std.proofs.lemmas.Option.{IfSome_then}
use Rattle.vx_diskset.proofs.OverAsked.{over_links, over_some, over_state}
use Rattle.vx_diskset.proofs.disk_set.DiskSet.state.Goals as goal

pub returns-in-Over-clause-is : goal.returns-in-Over-clause-is
returns-in-Over-clause-is g c = λ beside n stands up apart. (
  IfSome_then c.state-in-Over.result c.state-in-Over.ensures.is (λ x at. over_state beside n c.args.self.now c.in-Over.over c.in-Over.is stands x.now at),
  c.state-in-Over.ensures.some (over_some beside n c.args.self.now c.in-Over.over c.in-Over.is stands up),
)

pub returns-in-Over-clause-links : goal.returns-in-Over-clause-links
returns-in-Over-clause-links g c = λ beside n stands up told. IfSome_then c.state-in-Over.result c.state-in-Over.ensures.is (λ x at. over_links beside n c.args.self.now c.in-Over.over c.in-Over.is stands told x.now at)
