-- `bring`: clause brings.
use Rattle.vx_settle.proofs.Bringings.{bring-done}
use Rattle.vx_settle.proofs.bringing.bring.Goals as goal

pub returns-clause-brings : goal.returns-clause-brings
returns-clause-brings g c = let st = g.E.Engine.state in let pd = g.P.Peer.stand in
    bring-done (st c.args.engine.now) (st c.climb.new.engine) (st c.job.new.self) (pd c.args.peer.now) (pd c.finish-first.new.self) (pd c.climb.new.peer) (pd c.finish-last.new.self) c.finish-first.result c.finish-last.result c.link.result c.job.result c.job.new.into
    c.finish-first.ensures.finishes c.climb.ensures.climbs c.finish-last.ensures.finishes c.link.ensures c.job.ensures.acts
