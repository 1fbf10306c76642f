-- The loop of `ask_rest` over `k`: what stays true.
use Rattle.std.proofs.Common.{◌≡◌, ◌+◌, length}
use Rattle.vx_settle.specs.Bringing.{HaveLinks}
use Rattle.vx_burst.specs.Finishing.{StagesOn, ArePlaced, unplaced}
use Rattle.vx_burst.proofs.finishing.ask_rest.Given as goal

abbrev pub invariant-loop-k : goal.invariant-loop-k
invariant-loop-k g l =
    StagesOn g.P.Peer.stand g.P.Peer.root l.plan (g.E.Engine.state l.fn.engine) l.fn.peers l.fn.answers l.fn.taken (g.E.Engine.state l.engine) l.peers l.answers l.taken
    × HaveLinks g.P.Peer.stand (g.E.Engine.state l.engine) l.peers
    × (l.taken + unplaced l.answers ≡ length l.plan)
    × (length l.answers ≡ length l.plan)
    × ArePlaced l.answers l.k
    × (g.E.Engine.root l.engine ≡ g.E.Engine.root l.fn.engine)
