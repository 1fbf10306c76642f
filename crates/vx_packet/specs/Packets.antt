-- Packets: a header, and a part of a message's payload.
use Rattle.std.specs.Prelude.{◌≡◌, ℕ, Bool, true, ◌+◌, ◌^◌, ◌<◌, ◌≤◌, ◌&&◌, ◌==◌, nat_lt, IsTrue, List, [], ◌∷◌, ◌++◌, length}
use Rattle.std.specs.List.{list_any}
use Rattle.vx_model.specs.declared.limits.TheConstants.{PART_BYTES}
use Rattle.vx_model.specs.Numbers.{number_bound}
use Rattle.vx_wire.specs.declared.field.Field.{Field}
use Rattle.vx_wire.specs.declared.field.Field.TheVariants.{U8, U16, U32, U64}
use Rattle.vx_wire.specs.Fields.{spelled}
use Rattle.vx_wire.specs.Places.{cut}
use Rattle.vx_packet.specs.Messages.{row, payload_of, count_of_parts, chunk, IsCounted}
use Rattle.vx_packet.specs.declared.message.Envelope.{Envelope}
use Rattle.vx_packet.specs.declared.message.Message.{Message}
use Rattle.vx_packet.specs.declared.part.Part.{Part}

-- the session field holds zero, a session, or a region of a volume
pub data SessionField : Type 0 where
  Zero : SessionField
  Session : SessionField
  OfRegion : SessionField

-- the number field holds a number of a write or a replay, or a volume
pub data NumberField : Type 0 where
  Counted : NumberField
  Volume : NumberField

-- a kind of packet, and what its fields hold
pub record PacketKind : Type 0 where
  pub code : ℕ
  pub session : SessionField
  pub number : NumberField

abbrev kind : ℕ → SessionField → NumberField → PacketKind
kind code session number = record { code = code; session = session; number = number }

-- the kinds: Hello, Update, NetAck, DataAck, ReplayStart, Region, RegionsDone, RegionAck, Fork, ForkMap, Handover, Trim
abbrev pub kinds : List PacketKind
kinds =
    kind 1 Session Counted
    ∷ kind 2 Zero Counted
    ∷ kind 3 Session Counted
    ∷ kind 4 Zero Counted
    ∷ kind 5 Zero Counted
    ∷ kind 6 OfRegion Counted
    ∷ kind 7 Zero Counted
    ∷ kind 8 OfRegion Counted
    ∷ kind 9 Zero Counted
    ∷ kind 10 Zero Volume
    ∷ kind 11 Zero Counted
    ∷ kind 12 Zero Counted
    ∷ []

abbrev pub fits_session : SessionField → ℕ → Bool
fits_session Zero n = n == 0
fits_session Session n = nat_lt n number_bound
fits_session OfRegion n = true

abbrev pub fits_number : NumberField → ℕ → Bool
fits_number Counted n = nat_lt n number_bound
fits_number Volume n = true

-- one of the kinds has this code, and its fields may hold these
abbrev pub fits_kind : ℕ → ℕ → ℕ → Bool
fits_kind code session number = list_any (λ k. k.code == code && (fits_session k.session session && fits_number k.number number)) kinds

-- the bytes "VXPK"
abbrev pub packet_magic : ℕ
packet_magic = 0x5658504b

-- the fields of a header
unfoldable pub packet_table : Part → List Field
packet_table p =
    U32 packet_magic
    ∷ U8 1
    ∷ U8 p.kind
    ∷ U32 p.source
    ∷ U32 p.target
    ∷ U64 p.line.generation
    ∷ U32 p.line.origin
    ∷ U64 p.session
    ∷ U64 p.number
    ∷ U16 p.part
    ∷ U16 p.parts
    ∷ U16 p.length
    ∷ []

-- the bytes of a packet: its header, and this payload behind it
unfoldable pub packet_bytes : Part → List ℕ → List ℕ
packet_bytes p payload = spelled (packet_table p) ++ payload

-- all parts but the last have 1,024 bytes, and the last has none only where it is the one part of a message without payload
pub record HasLength (p : Part) : Type 0 where
  pub whole : p.part + 1 < p.parts → p.length ≡ PART_BYTES
  pub few : p.length ≤ PART_BYTES
  pub some : 1 < p.parts → 0 < p.length

-- a part that a packet can carry
pub record CanCarry (p : Part) : Type 0 where
  pub kind : IsTrue (fits_kind p.kind p.session p.number)
  pub generation : IsCounted p.line.generation
  pub part : p.part < p.parts
  pub length : HasLength p

-- the numbers of a part are of their types
pub record IsTypedPart (p : Part) : Type 0 where
  pub kind : p.kind < 2 ^ 8
  pub source : p.source < 2 ^ 32
  pub target : p.target < 2 ^ 32
  pub origin : p.line.origin < 2 ^ 32
  pub session : p.session < 2 ^ 64
  pub number : p.number < 2 ^ 64
  pub parts : p.parts < 2 ^ 16

-- the numbers of an envelope are of their types
pub record IsTypedEnvelope (e : Envelope) : Type 0 where
  pub source : e.source < 2 ^ 32
  pub target : e.target < 2 ^ 32
  pub origin : e.line.origin < 2 ^ 32

-- the payload that a packet carries
abbrev pub payload_in : Part → List ℕ → List ℕ
payload_in p bytes = cut p.start p.length bytes

-- the bytes are the packet that carries this part
pub record IsPacket (bytes : List ℕ) (p : Part) : Type 0 where
  pub can : CanCarry p
  pub typed : IsTypedPart p
  pub start : p.start ≡ 48
  pub whole : length bytes ≡ 48 + p.length
  pub is : bytes ≡ packet_bytes p (payload_in p bytes)

-- the k-th part of a message
unfoldable pub part_numbered : Envelope → Message → ℕ → Part
part_numbered e m k = record {
  kind = (row m).kind;
  source = e.source;
  target = e.target;
  line = e.line;
  session = (row m).session;
  number = (row m).number;
  part = k;
  parts = count_of_parts m;
  start = 48;
  length = length (chunk k (payload_of m));
}

-- the packet of the k-th part of a message
unfoldable pub part_packet : Envelope → Message → ℕ → List ℕ
part_packet e m k = packet_bytes (part_numbered e m k) (chunk k (payload_of m))
