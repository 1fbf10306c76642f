-- The loop of `send_message` over `part`: what stays true.
use Rattle.std.proofs.Common.{◌≡◌, ◌+◌, ◌≤◌, ◌++◌, List}
use Rattle.vx_courier.specs.UnderWay.{FlightStands}
use Rattle.vx_history.specs.Sends.{packets_from, parts_of}
use Rattle.vx_history.specs.World.{Message as PlainMessage, Packet}
use Rattle.vx_net.specs.Flights.{greatest_packet}
use Rattle.vx_parts.specs.Spelling.{spelled_message}
use Rattle.vx_courier.proofs.sending.send_message.Given as goal

abbrev pub invariant-loop-part : goal.invariant-loop-part
invariant-loop-part g l =
    ((ps : List Packet) (m : PlainMessage) → l.fn.message ≡ spelled_message m → FlightStands ps (g.N.Net.flying l.fn.flight) → (g.N.Net.flying l.fn.flight).count + parts_of m ≤ greatest_packet
    → FlightStands (ps ++ packets_from l.fn.envelope.source l.fn.envelope.target l.fn.envelope.line m 0 l.part) (g.N.Net.flying l.flight))
    × ((g.N.Net.flying l.flight).count ≤ (g.N.Net.flying l.fn.flight).count + l.part)
