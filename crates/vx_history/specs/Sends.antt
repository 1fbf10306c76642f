-- Links and packets of a world, with one more or another in place, and the parts of messages.
use Rattle.std.specs.Prelude.{ℕ, ◌+◌, ◌-◌, ◌/◌, zero, suc, pred, List, [], ◌∷◌, ◌++◌, length, take, drop, Bool, true, false, Option, Some, None}
use Rattle.vx_model.specs.Content.{Write}
use Rattle.vx_history.specs.World.{Node, Link, Message, Packet, Promise, World, Hello, Update, NetAck, DataAck, updated}
use Rattle.vx_model.specs.declared.history.Line.{Line}
use Rattle.vx_model.specs.declared.limits.TheConstants.{PART_BYTES}
use Rattle.vx_history.specs.declared.sender.Action.{Action}
use Rattle.vx_history.specs.declared.sender.Action.TheVariants.{Nothing, Ignored, Taken, Updates}

-- the site keeps a link there
abbrev pub is_made : Option ℕ → Bool
is_made None = false
is_made (Some place) = true

abbrev pub is_linked : Link → Bool
is_linked l = is_made l.made

abbrev pub with_links : World → ℕ → (ℕ → Link) → World
with_links w p row = record w { links = updated w.links p row }

abbrev pub with_link : World → ℕ → ℕ → Link → World
with_link w p s l = with_links w p (updated (w.links p) s l)

-- further packets
abbrev pub sending : World → List Packet → World
sending w ps = record w { packets = w.packets ++ ps }

-- further promises
abbrev pub promising : World → List Promise → World
promising w es = record w { promised = w.promised ++ es }

-- the bytes of a message behind the header of its packets
abbrev pub payload_size : Message → ℕ
payload_size (Hello session number stored) = 8
payload_size (Update number x) = 16 + length x.bytes
payload_size (NetAck session number) = 0
payload_size (DataAck number) = 0

-- A message goes in packets of 1,024 bytes of it, all but the first in further packets.
abbrev pub further_parts : Message → ℕ
further_parts m = pred ((payload_size m + (PART_BYTES - 1)) / PART_BYTES)

-- in how many parts a message goes
abbrev pub parts_of : Message → ℕ
parts_of m = suc (further_parts m)

-- the packet of a part
abbrev pub packet : (source target : ℕ) → Line → Message → (part : ℕ) → Packet
packet source target line m part = record { source = source; target = target; line = line; message = m; part = part }

-- so many packets of a message, from this part on
abbrev pub packets_from : (source target : ℕ) → Line → Message → (part count : ℕ) → List Packet
packets_from source target line m part zero = []
packets_from source target line m part (suc k) = packet source target line m part ∷ packets_from source target line m (part + 1) k

-- the packets of a message, one for each part
abbrev pub packets_of : (source target : ℕ) → Line → Message → List Packet
packets_of source target line m = packets_from source target line m 0 (parts_of m)

-- these writes as updates, the first under this number
abbrev pub updates : (source target : ℕ) → Line → (number : ℕ) → List Write → List Packet
updates source target line number [] = []
updates source target line number (x ∷ xs) = packets_of source target line (Update number x) ++ updates source target line (number + 1) xs

-- the writes with these numbers, both ends included
abbrev pub between : (from to : ℕ) → List Write → List Write
between from to log = drop (pred from) (take to log)

-- what a site sends on a link by what its rule says
abbrev pub sent_by : Action → (source target : ℕ) → Node → List Packet
sent_by Nothing source target n = []
sent_by Ignored source target n = []
sent_by Taken source target n = []
sent_by (Updates from to) source target n = updates source target n.line from (between from to n.log)

-- a site's greeting to another
abbrev pub greeting : (source target : ℕ) → Node → List Packet
greeting source target n = packets_of source target n.line (Hello n.session (length n.log) n.safe)
