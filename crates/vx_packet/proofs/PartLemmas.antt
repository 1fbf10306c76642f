-- A header that is spelled is read again.
use Rattle.std.proofs.Common.{◌≡◌, ℕ, ◌+◌, List, ◌++◌, length, take, drop, refl, ap, sym, ◌∙◌, arith}
use Rattle.std.proofs.lemmas.List.{take_at, take_all, length-drop, take-append-drop}
use Rattle.vx_wire.specs.Fields.{spelled}
use Rattle.vx_wire.specs.Numbers.{be_bytes, number_at}
use Rattle.vx_packet.specs.PacketReading.{part_in}
use Rattle.vx_packet.specs.Packets.{packet_table, packet_bytes, payload_in, CanCarry, IsTypedPart, IsPacket}
use Rattle.vx_packet.specs.declared.part.Part.{Part}
use Rattle.vx_packet.proofs.Numbers.{read}

pub length-header_table : (p : Part) → length (spelled (packet_table p)) ≡ 48
unfolding spelled be_bytes packet_table
length-header_table p = refl

-- the numbers of a header
record HasHeader (bytes : List ℕ) (p : Part) : Type 0 where
  kind : number_at 1 5 bytes ≡ p.kind
  source : number_at 4 6 bytes ≡ p.source
  target : number_at 4 10 bytes ≡ p.target
  generation : number_at 8 14 bytes ≡ p.line.generation
  origin : number_at 4 22 bytes ≡ p.line.origin
  session : number_at 8 26 bytes ≡ p.session
  number : number_at 8 34 bytes ≡ p.number
  part : number_at 2 42 bytes ≡ p.part
  parts : number_at 2 44 bytes ≡ p.parts
  length : number_at 2 46 bytes ≡ p.length

HasHeader-table : (p : Part) (payload : List ℕ) → CanCarry p → IsTypedPart p → HasHeader (spelled (packet_table p) ++ payload) p
unfolding number_at be_bytes spelled packet_table
HasHeader-table p payload can typed = record {
  kind = read 1 p.kind (omega (arith, typed.kind));
  source = read 4 p.source typed.source;
  target = read 4 p.target typed.target;
  generation = read 8 p.line.generation (omega (arith, can.generation));
  origin = read 4 p.line.origin typed.origin;
  session = read 8 p.session typed.session;
  number = read 8 p.number typed.number;
  part = read 2 p.part (omega (arith, can.part, typed.parts));
  parts = read 2 p.parts (omega (arith, typed.parts));
  length = read 2 p.length (omega (arith, can.length.few));
}

part_in-has : (bytes : List ℕ) (p : Part) → HasHeader bytes p → p.start ≡ 48 → part_in bytes ≡ p
unfolding part_in
part_in-has bytes p h start = rw (h.kind, h.source, h.target, h.generation, h.origin, h.session, h.number, h.part, h.parts, h.length, ← start) refl

-- what is read in a packet is the part that it carries
pub part_in-is : (bytes : List ℕ) (p : Part) → IsPacket bytes p → part_in bytes ≡ p
unfolding packet_bytes
part_in-is bytes p is = ap part_in is.is ∙ part_in-has (packet_bytes p (payload_in p bytes)) p (HasHeader-table p (payload_in p bytes) is.can is.typed) is.start

-- a packet begins with its header
pub front_packet : (bytes : List ℕ) (p : Part) → IsPacket bytes p → take 48 bytes ≡ spelled (packet_table p)
unfolding packet_bytes
front_packet bytes p is = ap (take 48) is.is ∙ take_at (spelled (packet_table p)) (payload_in p bytes) 48 (length-header_table p)

-- bytes that begin with the header of a part are its packet
pub packet_from : (bytes : List ℕ) (p : Part) → take 48 bytes ≡ spelled (packet_table p) → p.start ≡ 48 → length bytes ≡ 48 + p.length → bytes ≡ packet_bytes p (payload_in p bytes)
unfolding packet_bytes
packet_from bytes p front start whole =
    let all : take p.length (drop 48 bytes) ≡ drop 48 bytes = take_all p.length (drop 48 bytes) (omega (arith, length-drop 48 bytes)) in
    let payload : payload_in p bytes ≡ drop 48 bytes = ap (λ (n : ℕ). take p.length (drop n bytes)) start ∙ all in
    sym (take-append-drop 48 bytes) ∙ ap (λ (t : List ℕ). t ++ drop 48 bytes) front ∙ ap (λ (t : List ℕ). spelled (packet_table p) ++ t) (sym payload)
