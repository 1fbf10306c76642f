-- `finish`: clause drained.
use Rattle.vx_burst_threads.proofs.Draining.{drained-then, drained-peer}
use Rattle.vx_burst_threads.proofs.drainer.finish.Goals as goal

pub returns-clause-drained : goal.returns-clause-drained
returns-clause-drained g c = let pd = g.P.Peer.stand in
    drained-then c.args.pass.now c.args.pass.now c.acknowledge.new.pass (pd c.args.peer.now) (pd c.finish-ack.new.self) (pd c.finish-ack.new.self)
    (drained-peer c.args.pass.now (pd c.args.peer.now) (pd c.finish-ack.new.self) c.finish-ack.ensures.finishes.goes c.finish-ack.ensures.finishes.received c.finish-ack.ensures.finishes.handed) c.acknowledge.ensures
