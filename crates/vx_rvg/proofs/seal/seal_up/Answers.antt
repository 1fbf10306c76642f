-- The group behind a seal, where it may be refused.
use Rattle.vx_rvg.proofs.CommitCalls.{sealed_is}
use Rattle.vx_rvg.proofs.seal.seal_up.Goals as goal

pub returns-clause-idle : goal.returns-clause-idle
returns-clause-idle g c = sealed_is c.args.core.now (g.S.Shelf.meaning c.args.shelf.now) (g.S.Shelf.meaning c.seal_records.new.shelf) c.seal_records.new.core c.seal_records.result c.seal_records.ensures.answers
