-- How a site puts a message together from its parts: one message at a time.
use Rattle.std.specs.Prelude.{ℕ, Bool, true, false, ◌&&◌, eqb, if◌then◌else◌, List, set, replicate, Option, Some, None}
use Rattle.std.specs.List.{list_all}
use Rattle.vx_model.specs.Sites.{same_line}
use Rattle.vx_model.specs.declared.history.Line.{Line}
use Rattle.vx_history.specs.World.{Message, Packet, Key, Gathering, World, Hello, Update, NetAck, DataAck, updated}
use Rattle.vx_history.specs.Sends.{parts_of}

-- the kind of a message, as its packets name it
abbrev pub message_kind : Message → ℕ
message_kind (Hello session number stored) = 1
message_kind (Update number x) = 2
message_kind (NetAck session number) = 3
message_kind (DataAck number) = 4

-- the session that its packets name, and 0 where they name none
abbrev pub session_of : Message → ℕ
session_of (Hello session number stored) = session
session_of (Update number x) = 0
session_of (NetAck session number) = session
session_of (DataAck number) = 0

-- the number that its packets name
abbrev pub number_of : Message → ℕ
number_of (Hello session number stored) = number
number_of (Update number x) = number
number_of (NetAck session number) = number
number_of (DataAck number) = number

-- the key of a message from this site on this line
abbrev pub message_key : (source : ℕ) → Line → Message → Key
message_key source line m =
    record { source = source; kind = message_kind m; line = line; session = session_of m; number = number_of m; parts = parts_of m }

abbrev pub key_of : Packet → Key
key_of p = message_key p.source p.line p.message

abbrev pub same_key : Key → Key → Bool
same_key a b =
    eqb a.source b.source
    && (eqb a.kind b.kind && (same_line a.line b.line && (eqb a.session b.session && (eqb a.number b.number && eqb a.parts b.parts))))

-- which parts have come of the message with this key: none where another message is in assembly
abbrev pub came_before : Option Gathering → Key → List Bool
came_before None key = replicate key.parts false
came_before (Some g) key = if same_key g.key key then g.came else replicate key.parts false

-- the same with the part of this packet
abbrev pub came_after : Option Gathering → Packet → List Bool
came_after g p = set (came_before g (key_of p)) p.part true

-- every part has come
abbrev pub all_came : List Bool → Bool
all_came came = list_all (λ c. c) came

-- the message of the packet is whole with it
abbrev pub completes : Option Gathering → Packet → Bool
completes g p = all_came (came_after g p)

-- what is in assembly behind a packet that was taken or kept: its message, or nothing where that is whole
abbrev pub left_by : Option Gathering → Packet → Option Gathering
left_by g p = if completes g p then None else Some (record { key = key_of p; came = came_after g p })

-- the packet's target puts the packet to what is in assembly
abbrev pub gathered : World → Packet → World
gathered w p = record w { gathering = updated w.gathering p.target (left_by (w.gathering p.target) p) }

-- nothing is in assembly at this site
abbrev pub emptied : World → ℕ → World
emptied w s = record w { gathering = updated w.gathering s None }
