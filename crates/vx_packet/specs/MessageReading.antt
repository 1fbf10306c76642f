-- What stands in the places of a message's numbers, whether or not the payload is one of its kind's.
use Rattle.std.specs.Prelude.{ℕ, Bool, ◌+◌, ◌*◌, ◌/◌, ◌%◌, ◌^◌, ◌&&◌, ◌==◌, nat_lt, nat_le, if◌then◌else◌, List, length, drop, Option, Some, None}
use Rattle.vx_model.specs.declared.limits.TheConstants.{BLOCK, MOST_CALL_BLOCKS, MOST_MAP_BYTES, REGION}
use Rattle.vx_wire.specs.Numbers.{number_at}
use Rattle.vx_packet.specs.declared.message.Message.{Message}
use Rattle.vx_packet.specs.declared.message.Message.TheVariants.{Hello, Update, NetAck, DataAck, ReplayStart, Region, RegionsDone, RegionAck, Fork, ForkMap, Handover, Trim}

-- 1 to so many whole blocks
abbrev pub are_blocks : ℕ → List ℕ → Bool
are_blocks most bytes = nat_lt 0 (length bytes) && (nat_le (length bytes) (BLOCK * most) && length bytes % BLOCK == 0)

-- the message, if the payload has at least so many bytes
abbrev pub within_payload : ℕ → List ℕ → Message → Option Message
within_payload least p m = if nat_lt (length p) least then None else Some m

abbrev pub update_in : ℕ → List ℕ → Option Message
update_in n p = if nat_lt 16 (length p) && are_blocks MOST_CALL_BLOCKS (drop 16 p) then Some (Update n (number_at 4 0 p) (number_at 8 4 p) (drop 16 p)) else None

abbrev pub region_in : ℕ → ℕ → List ℕ → Option Message
region_in s n p = if are_blocks REGION p then Some (Region n (s / 2 ^ 32) (s % 2 ^ 32) p) else None

abbrev pub fork_map_in : ℕ → List ℕ → Option Message
fork_map_in n p = if nat_le 8 (length p) && nat_le (length p) (8 + MOST_MAP_BYTES) then Some (ForkMap n (number_at 8 0 p) (drop 8 p)) else None

-- what is read under a kind, with these fields of the header
unfoldable pub message_in : ℕ → ℕ → ℕ → List ℕ → Option Message
message_in kind s n p =
    if kind == 1 then within_payload 8 p (Hello s n (number_at 8 0 p))
    else if kind == 2 then update_in n p
    else if kind == 3 then Some (NetAck s n)
    else if kind == 4 then Some (DataAck n)
    else if kind == 5 then within_payload 8 p (ReplayStart n (number_at 8 0 p))
    else if kind == 6 then region_in s n p
    else if kind == 7 then within_payload 16 p (RegionsDone n (number_at 8 0 p) (number_at 8 8 p))
    else if kind == 8 then within_payload 1 p (RegionAck n (s / 2 ^ 32) (s % 2 ^ 32) (number_at 1 0 p))
    else if kind == 9 then within_payload 12 p (Fork n (record { generation = number_at 8 0 p; origin = number_at 4 8 p }))
    else if kind == 10 then fork_map_in n p
    else if kind == 11 then Some (Handover n)
    else if kind == 12 then Some (Trim n)
    else None
