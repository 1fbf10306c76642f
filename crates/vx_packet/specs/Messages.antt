-- Messages, as the table of kinds spells them.
use Rattle.std.specs.Prelude.{◌≡◌, ℕ, ◌+◌, ◌-◌, ◌*◌, ◌/◌, ◌%◌, ◌^◌, ◌<◌, ◌≤◌, ◌≢◌, max, List, [], ◌∷◌, ◌++◌, length, slice_index}
use Rattle.vx_model.specs.declared.limits.TheConstants.{BLOCK, MOST_CALL_BLOCKS, MOST_MAP_BYTES, PART_BYTES, REGION}
use Rattle.vx_model.specs.Numbers.{number_bound}
use Rattle.vx_wire.specs.declared.field.Field.{Field}
use Rattle.vx_wire.specs.declared.field.Field.TheVariants.{U8, U32, U64}
use Rattle.vx_wire.specs.Fields.{spelled}
use Rattle.vx_wire.specs.Places.{cut}
use Rattle.vx_packet.specs.Buffers.{AreWholeBlocks}
use Rattle.vx_packet.specs.declared.message.Message.{Message}
use Rattle.vx_packet.specs.declared.message.Message.TheVariants.{Hello, Update, NetAck, DataAck, ReplayStart, Region, RegionsDone, RegionAck, Fork, ForkMap, Handover, Trim}

-- a row of the table: the kind, the two fields of the header, and the payload, which is numbers and bytes behind them
pub record Row : Type 0 where
  pub kind : ℕ
  pub session : ℕ
  pub number : ℕ
  pub numbers : List Field
  pub bytes : List ℕ

-- a region of a volume as one number
abbrev pub region_number : ℕ → ℕ → ℕ
region_number vol region = vol * 2 ^ 32 + region

-- the table
abbrev pub row : Message → Row
row (Hello session number stored) = record { kind = 1; session = session; number = number; numbers = U64 stored ∷ []; bytes = [] }
row (Update number vol block bytes) = record { kind = 2; session = 0; number = number; numbers = U32 vol ∷ U64 block ∷ U32 (length bytes / BLOCK) ∷ []; bytes = bytes }
row (NetAck session number) = record { kind = 3; session = session; number = number; numbers = []; bytes = [] }
row (DataAck number) = record { kind = 4; session = 0; number = number; numbers = []; bytes = [] }
row (ReplayStart id start) = record { kind = 5; session = 0; number = id; numbers = U64 start ∷ []; bytes = [] }
row (Region id vol region bytes) = record { kind = 6; session = region_number vol region; number = id; numbers = []; bytes = bytes }
row (RegionsDone id start end) = record { kind = 7; session = 0; number = id; numbers = U64 start ∷ U64 end ∷ []; bytes = [] }
row (RegionAck id vol region kind) = record { kind = 8; session = region_number vol region; number = id; numbers = U8 kind ∷ []; bytes = [] }
row (Fork fork parent) = record { kind = 9; session = 0; number = fork; numbers = U64 parent.generation ∷ U32 parent.origin ∷ []; bytes = [] }
row (ForkMap vol regions bytes) = record { kind = 10; session = 0; number = vol; numbers = U64 regions ∷ []; bytes = bytes }
row (Handover head) = record { kind = 11; session = 0; number = head; numbers = []; bytes = [] }
row (Trim number) = record { kind = 12; session = 0; number = number; numbers = []; bytes = [] }

-- a number of a write or a replay, a session or a generation
abbrev pub IsCounted : ℕ → Type 0
IsCounted n = n < number_bound

-- an acknowledgement of a replay: its start, a region of it, or its end
abbrev pub IsAck : ℕ → ℕ → ℕ → Type 0
IsAck kind vol region = (kind ≤ 2) × (kind ≢ 1 → vol ≡ 0) × (kind ≢ 1 → region ≡ 0)

-- a bit for each of so many regions, and zeros behind them in the last byte
pub record IsMap (regions : ℕ) (bytes : List ℕ) : Type 0 where
  pub whole : length bytes ≡ (regions + 7) / 8
  pub few : length bytes ≤ MOST_MAP_BYTES
  pub unused : slice_index bytes (regions / 8) / 2 ^ (regions % 8) ≡ 0

-- a message that the table can spell
abbrev pub CanSpellMessage : Message → Type 0
CanSpellMessage (Hello session number stored) = IsCounted session × IsCounted number × IsCounted stored
CanSpellMessage (Update number vol block bytes) = IsCounted number × AreWholeBlocks MOST_CALL_BLOCKS bytes
CanSpellMessage (NetAck session number) = IsCounted session × IsCounted number
CanSpellMessage (DataAck number) = IsCounted number
CanSpellMessage (ReplayStart id start) = IsCounted id × IsCounted start
CanSpellMessage (Region id vol region bytes) = IsCounted id × AreWholeBlocks REGION bytes
CanSpellMessage (RegionsDone id start end) = IsCounted id × IsCounted start × IsCounted end
CanSpellMessage (RegionAck id vol region kind) = IsCounted id × IsAck kind vol region
CanSpellMessage (Fork fork parent) = IsCounted fork × IsCounted parent.generation
CanSpellMessage (ForkMap vol regions bytes) = IsMap regions bytes
CanSpellMessage (Handover head) = IsCounted head
CanSpellMessage (Trim number) = IsCounted number

-- the numbers of a message are of their types
abbrev pub IsTyped : Message → Type 0
IsTyped (Hello session number stored) = Unit {0}
IsTyped (Update number vol block bytes) = (vol < 2 ^ 32) × (block < 2 ^ 64)
IsTyped (NetAck session number) = Unit {0}
IsTyped (DataAck number) = Unit {0}
IsTyped (ReplayStart id start) = Unit {0}
IsTyped (Region id vol region bytes) = (vol < 2 ^ 32) × (region < 2 ^ 32)
IsTyped (RegionsDone id start end) = Unit {0}
IsTyped (RegionAck id vol region kind) = (vol < 2 ^ 32) × (region < 2 ^ 32)
IsTyped (Fork fork parent) = parent.origin < 2 ^ 32
IsTyped (ForkMap vol regions bytes) = (vol < 2 ^ 64) × (regions < 2 ^ 64)
IsTyped (Handover head) = Unit {0}
IsTyped (Trim number) = Unit {0}

-- the payload of a message
unfoldable pub payload_of : Message → List ℕ
payload_of m = spelled (row m).numbers ++ (row m).bytes

-- in how many parts a payload of so many bytes goes
abbrev pub part_count : ℕ → ℕ
part_count n = max 1 ((n + (PART_BYTES - 1)) / PART_BYTES)

-- in how many parts a message goes
unfoldable pub count_of_parts : Message → ℕ
count_of_parts m = part_count (length (payload_of m))

-- a part of a payload
abbrev pub chunk : ℕ → List ℕ → List ℕ
chunk k payload = cut (PART_BYTES * k) PART_BYTES payload

-- a message is spelled by this kind, these fields of the header and this payload
pub record IsSpelled (kind session number : ℕ) (payload : List ℕ) (m : Message) : Type 0 where
  pub kind_is : (row m).kind ≡ kind
  pub session_is : (row m).session ≡ session
  pub number_is : (row m).number ≡ number
  pub payload_is : payload_of m ≡ payload

-- a message that the table can spell is spelled so
pub record IsMessage (kind session number : ℕ) (payload : List ℕ) (m : Message) : Type 0 where
  pub can : CanSpellMessage m
  pub typed : IsTyped m
  pub spelled : IsSpelled kind session number payload m
