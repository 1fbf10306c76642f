-- The loop of `climb` over `net`: what stays true, and what falls.
use Rattle.std.proofs.Common.{◌≡◌, ◌^◌, ◌-◌}
use Rattle.vx_settle.proofs.Bringings.{Mid}
use Rattle.vx_settle.proofs.bringing.climb.Given as goal

abbrev pub invariant-loop-net : goal.invariant-loop-net
invariant-loop-net g l = Mid (g.E.Engine.state l.fn.engine) (g.P.Peer.stand l.fn.peer) (g.E.Engine.state l.engine) (g.P.Peer.stand l.peer) l.net × (g.E.Engine.root l.engine ≡ g.E.Engine.root l.fn.engine) × (g.P.Peer.root l.peer ≡ g.P.Peer.root l.fn.peer)

abbrev pub decreases-loop-net : goal.decreases-loop-net
decreases-loop-net g l = 2 ^ 64 - l.net
