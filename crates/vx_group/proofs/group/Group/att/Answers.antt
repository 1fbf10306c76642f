-- `att`: clause count; what `att_in` asks.
use Rattle.vx_group.proofs.MissLemmas.{count_all, none_knows, same_count}
use Rattle.vx_group.proofs.group.Group.att.Goals as goal

pub att_in-requires-clause-knows : goal.att_in-requires-clause-knows
att_in-requires-clause-knows g c = none_knows c.args.self.now.core.inner.config c.args.vol c.args.plex (g.S.Shelf.meaning c.args.self.now.shelf)

pub returns-clause-count : goal.returns-clause-count
returns-clause-count g c = λ off. same_count _ _ c.att_in.result (c.att_in.ensures.count off) (count_all c.args.self.now.core.inner.config c.args.vol c.args.plex)
