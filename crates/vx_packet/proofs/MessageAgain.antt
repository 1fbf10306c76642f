-- A message that is spelled is read again.
use Rattle.std.proofs.Common.{◌≡◌, ◌≤◌, ℕ, ◌+◌, ◌*◌, ◌/◌, ◌%◌, ◌^◌, ◌<◌, true, List, [], ◌∷◌, ◌++◌, length, drop, refl, ap, ◌∙◌, arith, Some}
use Rattle.std.specs.Prelude.{nat_lt, nat_le}
use Rattle.std.proofs.lemmas.Bool.{le-ltb}
use Rattle.std.proofs.lemmas.Bool.Decides.{nat_tests}
use Rattle.vx_model.specs.declared.limits.TheConstants.{MOST_MAP_BYTES}
use Rattle.vx_wire.specs.Fields.{spelled}
use Rattle.vx_wire.specs.declared.field.Field.TheVariants.{U8, U32, U64}
use Rattle.vx_wire.specs.Numbers.{be_bytes, number_at}
use Rattle.vx_packet.specs.Buffers.{AreWholeBlocks}
use Rattle.vx_packet.specs.MessageReading.{are_blocks, within_payload, update_in, fork_map_in, message_in}
use Rattle.vx_packet.specs.Messages.{row, region_number, payload_of, CanSpellMessage, IsTyped, IsMessage}
use Rattle.vx_packet.specs.declared.message.Message.{Message}
use Rattle.vx_packet.specs.declared.message.Message.TheVariants.{Hello, Update, NetAck, DataAck, ReplayStart, Region, RegionsDone, RegionAck, Fork, ForkMap, Handover, Trim}
use Rattle.vx_packet.proofs.Numbers.{read}
use Rattle.vx_packet.proofs.RowLemmas.{lt_true}

-- the two parts of a region's number
vol_of : (vol region : ℕ) → region < 2 ^ 32 → region_number vol region / 2 ^ 32 ≡ vol
vol_of vol region lt = omega arith

region_of : (vol region : ℕ) → region < 2 ^ 32 → region_number vol region % 2 ^ 32 ≡ region
region_of vol region lt = omega arith

le_true : (a b : ℕ) → a ≤ b → nat_le a b ≡ true
le_true a b h = grind (arith, nat_tests)

blocks_true : (most : ℕ) (bytes : List ℕ) → AreWholeBlocks most bytes → are_blocks most bytes ≡ true
blocks_true most bytes h = rw (lt_true 0 (length bytes) h.some, le_true (length bytes) (512 * most) h.few, h.whole) refl

within_is : (least : ℕ) (p : List ℕ) (m : Message) → least ≤ length p → within_payload least p m ≡ Some m
within_is least p m h = rw (le-ltb (length p) least h) refl

update-again : (n vol block : ℕ) (p bytes : List ℕ) → length p ≡ 16 + length bytes → AreWholeBlocks 16 bytes → drop 16 p ≡ bytes → number_at 4 0 p ≡ vol → number_at 8 4 p ≡ block
    → update_in n p ≡ Some (Update n vol block bytes)
update-again n vol block p bytes len blocks behind v b =
    let long : nat_lt 16 (length p) ≡ true = lt_true 16 (length p) (omega (arith, blocks.some)) in
    rw (long, behind, blocks_true 16 bytes blocks, v, b) refl

fork_map-again : (n regions : ℕ) (p bytes : List ℕ) → length p ≡ 8 + length bytes → length bytes ≤ 65536 → drop 8 p ≡ bytes → number_at 8 0 p ≡ regions → fork_map_in n p ≡ Some (ForkMap n regions bytes)
fork_map-again n regions p bytes len few behind r =
    let long : nat_le 8 (length p) ≡ true = le_true 8 (length p) (omega arith) in
    let short : nat_le (length p) (8 + MOST_MAP_BYTES) ≡ true = le_true (length p) (8 + MOST_MAP_BYTES) (omega arith) in
    rw (long, short, behind, r) refl

ack-again : (n vol region kind : ℕ) (p : List ℕ) → 1 ≤ length p → region < 2 ^ 32 → number_at 1 0 p ≡ kind
    → within_payload 1 p (RegionAck n (region_number vol region / 2 ^ 32) (region_number vol region % 2 ^ 32) (number_at 1 0 p)) ≡ Some (RegionAck n vol region kind)
ack-again n vol region kind p long lt k =
    within_is 1 p _ long
    ∙ ap (λ (x : ℕ). Some (RegionAck n x (region_number vol region % 2 ^ 32) (number_at 1 0 p))) (vol_of vol region lt)
    ∙ ap (λ (x : ℕ). Some (RegionAck n vol x (number_at 1 0 p))) (region_of vol region lt)
    ∙ ap (λ (x : ℕ). Some (RegionAck n vol region x)) k

done-same : (id a start b end : ℕ) → a ≡ start → b ≡ end → Some (RegionsDone id a b) ≡ Some (RegionsDone id start end)
done-same id a start b end first second = rw (first, second) refl

fork-same : (fork a generation b origin : ℕ) → a ≡ generation → b ≡ origin → Some (Fork fork (record { generation = a; origin = b })) ≡ Some (Fork fork (record { generation = generation; origin = origin }))
fork-same fork a generation b origin first second = rw (first, second) refl

-- what is read in the payload of a message under its kind is the message
pub message_in-row : (m : Message) → CanSpellMessage m → IsTyped m → message_in (row m).kind (row m).session (row m).number (payload_of m) ≡ Some m
unfolding message_in payload_of spelled be_bytes number_at
message_in-row (Hello session number stored) can typed = ap (λ (x : ℕ). Some (Hello session number x)) (read 8 stored (omega (arith, can.2)))
message_in-row (Update number vol block bytes) can typed =
    update-again number vol block (spelled (U32 vol ∷ U64 block ∷ U32 (length bytes / 512) ∷ []) ++ bytes) bytes (omega arith) can.1 refl (read 4 vol typed.0) (read 8 block typed.1)
message_in-row (NetAck session number) can typed = refl
message_in-row (DataAck number) can typed = refl
message_in-row (ReplayStart id start) can typed = ap (λ (x : ℕ). Some (ReplayStart id x)) (read 8 start (omega (arith, can.1)))
message_in-row (Region id vol region bytes) can typed = rw (blocks_true 64 bytes can.1, vol_of vol region typed.1, region_of vol region typed.1) refl
message_in-row (RegionsDone id start end) can typed = done-same id _ start _ end (read 8 start (omega (arith, can.1))) (read 8 end (omega (arith, can.2)))
message_in-row (RegionAck id vol region kind) can typed = ack-again id vol region kind (spelled (U8 kind ∷ []) ++ []) (omega arith) typed.1 (read 1 kind (omega (arith, can.1.0)))
message_in-row (Fork fork parent) can typed = fork-same fork _ parent.generation _ parent.origin (read 8 parent.generation (omega (arith, can.1))) (read 4 parent.origin typed)
message_in-row (ForkMap vol regions bytes) can typed = fork_map-again vol regions (spelled (U64 regions ∷ []) ++ bytes) bytes (omega arith) can.few refl (read 8 regions typed.1)
message_in-row (Handover head) can typed = refl
message_in-row (Trim number) can typed = refl

-- a payload is the spelling of at most one message of its kind
pub message_in-is : (kind session number : ℕ) (payload : List ℕ) (m : Message) → IsMessage kind session number payload m → message_in kind session number payload ≡ Some m
message_in-is kind session number payload m is =
    rw (← is.spelled.kind_is, ← is.spelled.session_is, ← is.spelled.number_is, ← is.spelled.payload_is) (message_in-row m is.can is.typed)
