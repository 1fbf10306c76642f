-- The loop of `send_updates` over `past`: what stays true.
use Rattle.std.proofs.Common.{◌+◌, ◌*◌, ◌≤◌, List, map, drop}
use Rattle.vx_history.specs.World.{Packet}
use Rattle.vx_history.specs.Sends.{updates}
use Rattle.vx_courier.specs.UnderWay.{FlightStands}
use Rattle.vx_rvg.specs.Contents.{write_of_update}
use Rattle.vx_peers.proofs.Updates.{OnTheWay}
use Rattle.vx_peers.proofs.sending.send_updates.Given as goal

abbrev pub invariant-loop-past : goal.invariant-loop-past
invariant-loop-past g l =
    ((ps : List Packet) → FlightStands ps (g.N.Net.flying l.fn.flight)
    → OnTheWay ps (updates l.fn.envelope.source l.fn.envelope.target l.fn.envelope.line l.fn.first (map write_of_update l.fn.updates))
    (updates l.fn.envelope.source l.fn.envelope.target l.fn.envelope.line (l.fn.first + l.past) (map write_of_update (drop l.past l.fn.updates))) (g.N.Net.flying l.flight))
    × ((g.N.Net.flying l.flight).count ≤ (g.N.Net.flying l.fn.flight).count + 16 * l.past)
