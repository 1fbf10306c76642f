-- Packets under their numbers, of which the newest are kept.
use Rattle.std.specs.Prelude.{◌≡◌, ℕ, ◌+◌, ◌-◌, ◌≤◌, min, ltb, List, [], ◌∷◌, ◌++◌, length, drop, slice_get, Option, None, if◌then◌else◌}
use Rattle.vx_model.specs.declared.limits.TheConstants.{MOST_NUMBER, MOST_PACKETS}

-- how many packets were sent, and the newest of them, oldest first
pub record Flying : Type 0 where
  pub count : ℕ
  pub kept : List (List ℕ)

-- so many packets are kept at most
abbrev pub most_kept : ℕ
most_kept = MOST_PACKETS

-- the greatest number of a packet
abbrev pub greatest_packet : ℕ
greatest_packet = MOST_NUMBER

abbrev pub nothing_sent : Flying
nothing_sent = record { count = 0; kept = [] }

-- the number of the oldest packet that is kept
abbrev pub oldest_of : Flying → ℕ
oldest_of f = f.count + 1 - length f.kept

-- the last ones of a list, as many as are kept
abbrev pub newest_packets : List (List ℕ) → List (List ℕ)
newest_packets packets = drop (length packets - most_kept) packets

-- one more packet is sent, and the oldest is dropped where so many are kept already; past the greatest number it is lost
abbrev pub sent : Flying → List ℕ → Flying
sent f bytes = if ltb f.count greatest_packet then record { count = f.count + 1; kept = newest_packets (f.kept ++ bytes ∷ []) } else f

-- the packet of this number; none below the first, and none above the count
abbrev pub kept_packet : Flying → ℕ → Option (List ℕ)
kept_packet f number = if ltb number (oldest_of f) then None else slice_get f.kept (number - oldest_of f)

-- all packets that were sent are kept, or as many as can be
pub record IsFullNet (f : Flying) : Type 0 where
  pub kept : length f.kept ≡ min f.count most_kept
  pub numbered : f.count ≤ greatest_packet

-- what stands after these packets were sent one after another
abbrev pub sent_all : Flying → List (List ℕ) → Flying
sent_all f [] = f
sent_all f (bytes ∷ rest) = sent_all (sent f bytes) rest
