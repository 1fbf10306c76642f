-- The packets of a message.
use Rattle.std.proofs.Common.{◌≡◌, ◌≤◌, ℕ, ◌-◌, ◌*◌, ◌<◌, min, List, ◌++◌, length, take, drop, refl, ap, sym, ◌∙◌, arith}
use Rattle.std.proofs.lemmas.List.{length-append, take_all, drop_at}
use Rattle.vx_wire.specs.Fields.{spelled}
use Rattle.vx_packet.specs.Messages.{row, payload_of, count_of_parts, part_count, chunk, CanSpellMessage, IsTyped, IsCounted}
use Rattle.vx_packet.specs.Packets.{packet_table, packet_bytes, payload_in, part_numbered, part_packet, IsTypedEnvelope, HasLength, CanCarry, IsTypedPart, IsPacket}
use Rattle.vx_packet.specs.declared.message.Envelope.{Envelope}
use Rattle.vx_packet.specs.declared.message.Message.{Message}
use Rattle.vx_packet.specs.declared.part.Part.{Part}
use Rattle.vx_packet.proofs.ChunkLemmas.{length-chunk}
use Rattle.vx_packet.proofs.PartLemmas.{length-header_table}
use Rattle.vx_packet.proofs.RowLemmas.{fits-row, typed-row, IsTypedRow}

-- the payload behind a header
pub payload_in-packet_bytes : (p : Part) (payload : List ℕ) → p.start ≡ 48 → length payload ≡ p.length → payload_in p (packet_bytes p payload) ≡ payload
unfolding packet_bytes
payload_in-packet_bytes p payload start len =
    let table : List ℕ = spelled (packet_table p) in
    ap (λ (n : ℕ). take p.length (drop n (table ++ payload))) start ∙ ap (take p.length) (drop_at table payload 48 (length-header_table p)) ∙ take_all p.length payload (omega (arith, len))

-- a header and the payload that it tells of are a packet
pub IsPacket-packet_bytes : (p : Part) (payload : List ℕ) → CanCarry p → IsTypedPart p → p.start ≡ 48 → length payload ≡ p.length → IsPacket (packet_bytes p payload) p
unfolding packet_bytes
IsPacket-packet_bytes p payload can typed start len =
    let table : List ℕ = spelled (packet_table p) in
    let carried : payload_in p (table ++ payload) ≡ payload = payload_in-packet_bytes p payload start len in record {
      can = can;
      typed = typed;
      start = start;
      whole = omega (arith, length-append table payload, length-header_table p);
      is = ap (λ (t : List ℕ). table ++ t) (sym carried);
    }

-- a part of so many bytes
HasLength-of : (k n : ℕ) (p : Part) → p.part ≡ k → p.parts ≡ part_count n → p.length ≡ min 1024 (n - 1024 * k) → k < part_count n → HasLength p
HasLength-of k n p part parts len lt = record {
  whole = λ h. omega arith;
  few = omega arith;
  some = λ h. omega arith;
}

pub parts_of-few : (m : Message) → length (payload_of m) ≤ 65560 → count_of_parts m ≤ 65
unfolding count_of_parts
parts_of-few m few = omega arith

pub same_parts : (m : Message) → count_of_parts m ≡ part_count (length (payload_of m))
unfolding count_of_parts
same_parts m = refl

pub IsPacket-packet_of : (e : Envelope) (m : Message) (k : ℕ) → IsCounted e.line.generation → IsTypedEnvelope e → CanSpellMessage m → IsTyped m → length (payload_of m) ≤ 65560 → k < count_of_parts m
    → IsPacket (part_packet e m k) (part_numbered e m k)
unfolding part_packet part_numbered
IsPacket-packet_of e m k generation envelope can typed few lt =
    let t : IsTypedRow (row m) = typed-row m can typed in
    let most : count_of_parts m ≤ 65 = parts_of-few m few in
    let parts : count_of_parts m ≡ part_count (length (payload_of m)) = same_parts m in
    IsPacket-packet_bytes (part_numbered e m k) (chunk k (payload_of m))
    (record {
      kind = fits-row m can;
      generation = generation;
      part = lt;
      length = HasLength-of k (length (payload_of m)) (part_numbered e m k) refl parts (length-chunk k (payload_of m)) (omega arith);
    })
    (record {
      kind = t.kind;
      source = envelope.source;
      target = envelope.target;
      origin = envelope.origin;
      session = t.session;
      number = t.number;
      parts = omega arith;
    })
    refl
    refl

-- a packet carries its part of the message
pub payload_in-packet_of : (e : Envelope) (m : Message) (k : ℕ) → payload_in (part_numbered e m k) (part_packet e m k) ≡ chunk k (payload_of m)
unfolding part_packet part_numbered
payload_in-packet_of e m k = payload_in-packet_bytes (part_numbered e m k) (chunk k (payload_of m)) refl refl

-- and is the one that does
pub packet_of-is : (bytes : List ℕ) (e : Envelope) (m : Message) (k : ℕ) → IsPacket bytes (part_numbered e m k) → payload_in (part_numbered e m k) bytes ≡ chunk k (payload_of m) → bytes ≡ part_packet e m k
unfolding part_packet
packet_of-is bytes e m k is same = is.is ∙ ap (packet_bytes (part_numbered e m k)) same
