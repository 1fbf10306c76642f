-- The loop of `drain`: what stays true.
use Rattle.std.proofs.Common.{◌≡◌}
use Rattle.vx_burst_threads.specs.Draining.{Drained}
use Rattle.vx_burst_threads.proofs.drainer.Drainer.drain.Given as goal

abbrev pub invariant-loop : goal.invariant-loop
invariant-loop g l =
    Drained l.fn.self.pass (g.P.Peer.stand l.fn.self.peer) l.self.pass (g.P.Peer.stand l.self.peer)
    × (g.P.Peer.root l.self.peer ≡ g.P.Peer.root l.fn.self.peer)
    × (l.net ≡ (g.P.Peer.stand l.self.peer).net)
