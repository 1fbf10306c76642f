-- `encode`: its result; what `put_fields` and `put_chunk` ask; that no number grows too large.
use Rattle.std.proofs.Common.{arith, ◌≡◌, ◌≤◌, ◌+◌, ◌++◌, ◌∙◌, ap, sym, take, length, ℕ, List}
use Rattle.vx_wire.specs.Fields.{spelled}
use Rattle.vx_packet.specs.Messages.{count_of_parts, payload_of, part_count, chunk}
use Rattle.vx_packet.specs.Packets.{packet_table, part_numbered, part_packet}
use Rattle.vx_packet.specs.declared.message.Envelope.{Envelope}
use Rattle.vx_packet.specs.declared.message.Message.{Message}
use Rattle.vx_packet.specs.declared.part.Part.{Part}
use Rattle.vx_packet.specs.declared.row.Row.{Row}
use Rattle.vx_packet.proofs.ChunkLemmas.{length-chunk}
use Rattle.vx_packet.proofs.EncodeLemmas.{carried, carried-is, IsWritten-parts, IsWritten}
use Rattle.vx_packet.proofs.PacketLemmas.{IsPacket-packet_of, parts_of-few, same_parts}
use Rattle.vx_packet.proofs.PartLemmas.{length-header_table}
use Rattle.vx_packet.proofs.RowLemmas.{payload-row, length-payload}
use Rattle.vx_packet.proofs.encoding.encode.Goals as goal

pub overflow_sub-total : goal.overflow_sub-total
overflow_sub-total c =
    let total : c.put_front-len.result + length c.row_of-row.result.bytes.now ≡ length (payload_of c.args.m.now) =
    length-payload c.row_of-row.result c.args.m.now c.put_front-len.result c.row_of-row.ensures.row c.put_front-len.ensures.length in
    omega (arith, same_parts c.args.m.now, c.requires.part)

pub overflow_cast-carried : goal.overflow_cast-carried
overflow_cast-carried c =
    let total : c.put_front-len.result + length c.row_of-row.result.bytes.now ≡ length (payload_of c.args.m.now) =
    length-payload c.row_of-row.result c.args.m.now c.put_front-len.result c.row_of-row.ensures.row c.put_front-len.ensures.length in
    let few : length (payload_of c.args.m.now) ≤ 65560 = omega (arith, c.row_of-row.ensures.few, c.put_front-len.ensures.few) in
    omega (arith, parts_of-few c.args.m.now few, c.requires.part)

pub put_fields-requires : goal.put_fields-requires
put_fields-requires c =
    let p : Part = carried c.args.e.now c.row_of-row.result c.args.part c.part_count.result c.min-length.result in
    let same : length (spelled c.table.result) ≡ length (spelled (packet_table p)) = ap (λ t. length (spelled t)) c.table.ensures in
    omega (arith, same, length-header_table p)

pub put_chunk-requires-clause-part : goal.put_chunk-requires-clause-part
put_chunk-requires-clause-part c =
    let total : c.put_front-len.result + length c.row_of-row.result.bytes.now ≡ length (payload_of c.args.m.now) =
    length-payload c.row_of-row.result c.args.m.now c.put_front-len.result c.row_of-row.ensures.row c.put_front-len.ensures.length in
    omega (arith, same_parts c.args.m.now, c.requires.part, ap length c.put_front-len.ensures.written, c.put_front-len.ensures.length)

pub returns : goal.returns
returns c =
    let e : Envelope = c.args.e.now in
    let m : Message = c.args.m.now in
    let k : ℕ = c.args.part in
    let found : Row = c.row_of-row.result in
    let front : List ℕ = take c.put_front-len.result c.put_front-len.new.into in
    let total : c.put_front-len.result + length found.bytes.now ≡ length (payload_of m) =
    length-payload found m c.put_front-len.result c.row_of-row.ensures.row c.put_front-len.ensures.length in
    let few : length (payload_of m) ≤ 65560 = omega (arith, c.row_of-row.ensures.few, c.put_front-len.ensures.few) in
    let payload : chunk k (front ++ found.bytes.now) ≡ chunk k (payload_of m) =
    ap (chunk k) (payload-row found m front c.row_of-row.ensures.row c.put_front-len.ensures.written) in
    let parts : c.part_count.result ≡ count_of_parts m = c.part_count.ensures ∙ ap part_count total ∙ sym (same_parts m) in
    let long : c.min-length.result ≡ length (chunk k (payload_of m)) = omega (arith, length-chunk k (payload_of m)) in
    let is : carried e found k c.part_count.result c.min-length.result ≡ part_numbered e m k =
    carried-is e m found k c.part_count.result c.min-length.result c.row_of-row.ensures.row parts long in
    let header : spelled c.table.result ≡ spelled (packet_table (part_numbered e m k)) =
    ap spelled c.table.ensures ∙ ap (λ (p : Part). spelled (packet_table p)) is in
    let written : IsWritten (part_packet e m k) c.args.into.now c.put_chunk.new.into (48 + c.min-length.result) =
    IsWritten-parts e m k (48 + c.min-length.result) (spelled c.table.result) (chunk k (front ++ found.bytes.now)) c.args.into.now c.put_fields.new.bytes c.put_chunk.new.into header payload (omega (arith, ap length payload, long)) c.put_fields.ensures.written c.put_chunk.ensures in record {
      length = written.length;
      few = omega arith;
      bytes = written.bytes;
      behind = written.behind;
      packet = IsPacket-packet_of e m k c.requires.generation c.is_typed.ensures c.requires.message c.row_of-row.ensures.typed few c.requires.part;
    }
