-- `step`: clause steps.
use Rattle.std.proofs.Common.{rules}
use Rattle.vx_settle.proofs.Bringings.{step-some, step-stuck, step-end}
use Rattle.vx_settle.proofs.bringing.step.Goals as goal

pub returns-then-ack-net-clause-steps : goal.returns-then-ack-net-clause-steps
returns-then-ack-net-clause-steps g c = step-some (g.E.Engine.state c.args.engine.now) (g.E.Engine.state c.job.new.self) (g.P.Peer.stand c.args.peer.now) (g.P.Peer.stand c.hand-ack.new.self) c.args.net c.job.result c.job.new.into c.hand-ack.result c.in-Done.field-0
    c.requires.net.0 c.in-Done.is c.job.ensures.acts c.hand-ack.ensures.hands (search rules)

pub returns-else-ack-net-clause-steps : goal.returns-else-ack-net-clause-steps
returns-else-ack-net-clause-steps g c = step-stuck (g.E.Engine.state c.args.engine.now) (g.E.Engine.state c.job.new.self) (g.P.Peer.stand c.args.peer.now) (g.P.Peer.stand c.hand-ack.new.self) c.args.net c.job.result c.job.new.into c.hand-ack.result c.in-Done.field-0
    c.requires.net.0 c.in-Done.is c.job.ensures.acts c.hand-ack.ensures.hands (search rules)

pub returns-in_default-clause-steps : goal.returns-in_default-clause-steps
returns-in_default-clause-steps g c = step-end (g.E.Engine.state c.args.engine.now) (g.E.Engine.state c.job.new.self) (g.P.Peer.stand c.args.peer.now) c.args.net c.args.head c.job.result c.job.new.into
    c.requires.net.0 c.requires.head c.requires.net.1 c.in_default.not-Done c.job.ensures.acts
