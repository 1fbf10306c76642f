-- How the packets that are under way stand for those of the world.
use Rattle.std.specs.Prelude.{◌≡◌, ℕ, ◌<◌, ◌≤◌, List, length, map, All}
use Rattle.vx_history.specs.Sends.{parts_of}
use Rattle.vx_history.specs.World.{Packet}
use Rattle.vx_net.specs.Flights.{Flying, greatest_packet, nothing_sent, sent_all}
use Rattle.vx_packet.specs.Messages.{CanSpellMessage, IsTyped}
use Rattle.vx_packet.specs.Packets.{IsPacket, part_packet, part_numbered}
use Rattle.vx_packet.specs.declared.message.Envelope.{Envelope}
use Rattle.vx_packet.specs.declared.part.Part.{Part}
use Rattle.vx_parts.specs.Spelling.{spelled_message}

-- from which site to which a packet goes, and on which line
abbrev pub way_of : Packet → Envelope
way_of p = record { source = p.source; target = p.target; line = p.line }

-- the bytes that carry a packet
abbrev pub carrier : Packet → List ℕ
carrier p = part_packet (way_of p) (spelled_message p.message) p.part

-- the part that is read in them
abbrev pub part_carried : Packet → Part
part_carried p = part_numbered (way_of p) (spelled_message p.message) p.part

-- a packet that bytes can carry
pub record CanFly (p : Packet) : Type 0 where
  pub can : CanSpellMessage (spelled_message p.message)
  pub typed : IsTyped (spelled_message p.message)
  pub within : p.part < parts_of p.message
  pub packet : IsPacket (carrier p) (part_carried p)

-- all that was ever sent in the world is under way under its numbers, as far as it is kept
pub record FlightStands (ps : List Packet) (f : Flying) : Type 0 where
  pub each : All CanFly ps
  pub few : length ps ≤ greatest_packet
  pub flying : f ≡ sent_all nothing_sent (map carrier ps)
