-- The loop of `bring_all` over `i`: what stays true.
use Rattle.std.proofs.Common.{◌≡◌}
use Rattle.vx_settle.proofs.ManyPeers.{Brought}
use Rattle.vx_settle.proofs.bringing.bring_all.Given as goal

abbrev pub invariant-loop-i : goal.invariant-loop-i
invariant-loop-i g l = Brought g.P.Peer.stand g.P.Peer.root (g.E.Engine.state l.fn.engine) l.fn.peers l.i (g.E.Engine.state l.engine) l.peers × (g.E.Engine.root l.engine ≡ g.E.Engine.root l.fn.engine)
