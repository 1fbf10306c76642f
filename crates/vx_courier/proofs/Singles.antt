-- A message that goes in one packet, and its payload.
use Rattle.std.proofs.Common.{◌≡◌, ◌∙◌, ◌≤◌, ℕ, List, length, ap, sym, refl, arith}
use Rattle.std.proofs.lemmas.List.{take_all}
use Rattle.vx_packet.specs.Messages.{IsMessage, IsSpelled, chunk, part_count, payload_of}
use Rattle.vx_packet.specs.Packets.{part_numbered, payload_in}
use Rattle.vx_packet.specs.declared.message.Envelope.{Envelope}
use Rattle.vx_packet.specs.declared.message.Message.{Message as Spelled}
use Rattle.vx_packet.proofs.PacketLemmas.{payload_in-packet_of, same_parts}
use Rattle.vx_history.specs.Sends.{parts_of as parts_in}
use Rattle.vx_history.specs.World.{Packet}
use Rattle.vx_parts.specs.Spelling.{spelled_message}
use Rattle.vx_parts.proofs.Counting.{parts_are}
use Rattle.vx_courier.specs.UnderWay.{CanFly, carrier, part_carried, way_of}

first_chunk : (bytes : List ℕ) → length bytes ≤ 1024 → chunk 0 bytes ≡ bytes
first_chunk bytes few = take_all 1024 bytes few

spelled_by : (e : Envelope) (m : Spelled) (k : ℕ) (payload : List ℕ) → payload_of m ≡ payload → IsSpelled (part_numbered e m k).kind (part_numbered e m k).session (part_numbered e m k).number payload m
unfolding part_numbered
spelled_by e m k payload is = record { kind_is = refl; session_is = refl; number_is = refl; payload_is = is }

-- the packet of a message of one part carries its whole payload
pub single_message : (p : Packet) → CanFly p → parts_in p.message ≡ 1
    → IsMessage (part_carried p).kind (part_carried p).session (part_carried p).number (payload_in (part_carried p) (carrier p)) (spelled_message p.message)
single_message p fly one =
    let m : Spelled = spelled_message p.message in
    let part : p.part ≡ 0 = omega (arith, fly.within, one) in
    let count : part_count (length (payload_of m)) ≡ 1 = sym (same_parts m) ∙ parts_are p.message ∙ one in
    let few : length (payload_of m) ≤ 1024 = omega (arith, count) in
    let payload : payload_in (part_carried p) (carrier p) ≡ payload_of m = payload_in-packet_of (way_of p) m p.part ∙ ap (λ (k : ℕ). chunk k (payload_of m)) part ∙ first_chunk (payload_of m) few in
    record { can = fly.can; typed = fly.typed; spelled = spelled_by (way_of p) m p.part (payload_in (part_carried p) (carrier p)) (sym payload) }
