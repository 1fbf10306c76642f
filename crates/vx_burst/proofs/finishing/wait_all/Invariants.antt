-- The loop of `wait_all` over `k`: what stays true.
use Rattle.std.proofs.Common.{◌≡◌}
use Rattle.vx_settle.specs.Bringing.{HaveLinks}
use Rattle.vx_burst.specs.Finishing.{WaitsOn}
use Rattle.vx_burst.proofs.Waitings.{ArePlacesOf}
use Rattle.vx_burst.proofs.finishing.wait_all.Given as goal

abbrev pub invariant-loop-k : goal.invariant-loop-k
invariant-loop-k g l =
    WaitsOn g.P.Peer.stand g.P.Peer.root (g.E.Engine.state l.fn.engine) l.fn.peers l.fn.answers l.k (g.E.Engine.state l.engine) l.peers l.answers
    × HaveLinks g.P.Peer.stand (g.E.Engine.state l.engine) l.peers
    × ArePlacesOf l.fn.answers l.answers
    × (g.E.Engine.root l.engine ≡ g.E.Engine.root l.fn.engine)
