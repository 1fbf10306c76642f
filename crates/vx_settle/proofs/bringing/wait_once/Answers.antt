-- `wait_once`: clause once.
use Rattle.vx_settle.proofs.ManyPeers.{once-done, once-nothing, once-gone, once-ended}
use Rattle.vx_settle.proofs.bringing.wait_once.Goals as goal

pub returns-in-Done-clause-once : goal.returns-in-Done-clause-once
returns-in-Done-clause-once g c = once-done (g.E.Engine.state c.args.engine.now) (g.E.Engine.state c.job.new.self) c.args.number c.in-Done.field-0 c.job.result c.job.new.into c.in-Done.is c.job.ensures.acts

pub returns-in-Refused-clause-once : goal.returns-in-Refused-clause-once
returns-in-Refused-clause-once g c = once-ended (g.E.Engine.state c.args.engine.now) (g.E.Engine.state c.job.new.self) c.args.number c.in-Refused.cause c.ended_by.result c.job.result c.job.new.into c.in-Refused.is c.ended_by.ensures c.job.ensures.acts

pub returns-in-Nothing-clause-once : goal.returns-in-Nothing-clause-once
returns-in-Nothing-clause-once g c = once-nothing (g.E.Engine.state c.args.engine.now) (g.E.Engine.state c.job.new.self) c.args.number c.job.result c.job.new.into c.in-Nothing.is c.job.ensures.acts

pub returns-in-Gone-clause-once : goal.returns-in-Gone-clause-once
returns-in-Gone-clause-once g c = once-gone (g.E.Engine.state c.args.engine.now) (g.E.Engine.state c.job.new.self) c.args.number c.in-Gone.low c.job.result c.job.new.into c.in-Gone.is c.job.ensures.acts
