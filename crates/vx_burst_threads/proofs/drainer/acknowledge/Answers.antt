-- `acknowledge`: its result.
use Rattle.vx_burst_threads.proofs.Draining.{drained-ack}
use Rattle.vx_burst_threads.proofs.drainer.acknowledge.Goals as goal

pub returns : goal.returns
returns g c = drained-ack c.args.pass.now c.work.new.pass (g.P.Peer.stand c.args.peer.now) c.link.result c.args.ack c.work.result c.work.new.into c.requires.ack.0 c.requires.ack.1 c.link.ensures c.work.ensures.work c.work.ensures.same
