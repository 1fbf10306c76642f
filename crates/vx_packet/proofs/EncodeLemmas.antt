-- What encoding writes.
use Rattle.std.proofs.Common.{◌≡◌, ℕ, ◌+◌, List, ◌++◌, length, take, drop, refl, ap, sym, ◌∙◌, arith}
use Rattle.std.proofs.lemmas.List.{length-append, take_at, drop_at}
use Rattle.vx_wire.specs.Fields.{spelled}
use Rattle.vx_wire.specs.Places.{put_at}
use Rattle.vx_wire.proofs.PlaceLemmas.{put_at-put_at}
use Rattle.vx_packet.specs.Messages.{row, payload_of, count_of_parts, chunk}
use Rattle.vx_packet.specs.Packets.{packet_table, packet_bytes, part_numbered, part_packet}
use Rattle.vx_packet.specs.Rows.{IsRow}
use Rattle.vx_packet.specs.declared.message.Envelope.{Envelope}
use Rattle.vx_packet.specs.declared.message.Message.{Message}
use Rattle.vx_packet.specs.declared.part.Part.{Part}
use Rattle.vx_packet.specs.declared.row.Row.{Row as RowValue}
use Rattle.vx_packet.proofs.PartLemmas.{length-header_table}

-- the part that a row, the number of parts and a length make
abbrev pub carried : Envelope → RowValue → ℕ → ℕ → ℕ → Part
carried e found k parts len = record {
  kind = found.kind;
  source = e.source;
  target = e.target;
  line = e.line;
  session = found.session;
  number = found.number;
  part = k;
  parts = parts;
  start = 48;
  length = len;
}

pub carried-is : (e : Envelope) (m : Message) (found : RowValue) (k parts len : ℕ) → IsRow found (row m) → parts ≡ count_of_parts m → len ≡ length (chunk k (payload_of m)) → carried e found k parts len ≡ part_numbered e m k
unfolding part_numbered
carried-is e m found k parts len is same long = rw (is.kind, is.session, is.number, same, long) refl

-- a packet that is written over the front of bytes
pub record IsWritten (packet old new : List ℕ) (n : ℕ) : Type 0 where
  pub length : n ≡ length packet
  pub bytes : take n new ≡ packet
  pub behind : drop n new ≡ drop n old

pub IsWritten-put_at : (packet old new : List ℕ) (n : ℕ) → n ≡ length packet → new ≡ put_at 0 packet old → IsWritten packet old new n
unfolding put_at
IsWritten-put_at packet old new n len is = record {
  length = len;
  bytes = ap (take n) is ∙ take_at packet (drop (0 + length packet) old) n (sym len);
  behind = ap (drop n) is ∙ drop_at packet (drop (0 + length packet) old) n (sym len) ∙ ap (λ (k : ℕ). drop k old) (omega (arith, len));
}

-- the header is written, and then the payload behind it
pub IsWritten-parts : (e : Envelope) (m : Message) (k n : ℕ) (header payload old middle new : List ℕ) → header ≡ spelled (packet_table (part_numbered e m k)) → payload ≡ chunk k (payload_of m) → n ≡ 48 + length payload
    → middle ≡ put_at 0 header old → new ≡ put_at 48 payload middle → IsWritten (part_packet e m k) old new n
unfolding part_packet packet_bytes
IsWritten-parts e m k n header payload old middle new same chunked len first second =
    let wide : length header ≡ 48 = ap length same ∙ length-header_table (part_numbered e m k) in
    let both : header ++ payload ≡ spelled (packet_table (part_numbered e m k)) ++ chunk k (payload_of m) =
    ap (λ (t : List ℕ). t ++ payload) same ∙ ap (λ (t : List ℕ). spelled (packet_table (part_numbered e m k)) ++ t) chunked in
    let whole : new ≡ put_at 0 (header ++ payload) old = second ∙ ap (put_at 48 payload) first ∙ put_at-put_at 0 48 header payload old (omega (arith, wide)) (omega arith) in
    let long : n ≡ length (header ++ payload) = omega (arith, length-append header payload) in
    IsWritten-put_at _ old new n (long ∙ ap length both) (whole ∙ ap (λ (t : List ℕ). put_at 0 t old) both)
