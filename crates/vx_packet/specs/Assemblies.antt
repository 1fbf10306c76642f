-- One message in assembly.
use Rattle.std.specs.Prelude.{◌≡◌, ℕ, ◌<◌, Bool, true, false, ◌&&◌, ◌==◌, if◌then◌else◌, List, length, set, replicate, Option, Some, None}
use Rattle.vx_packet.specs.Gathering.{Parts, kept_payload, all_parts_came, joined_parts}
use Rattle.vx_packet.specs.MessageReading.{message_in}
use Rattle.vx_packet.specs.Messages.{IsMessage}
use Rattle.vx_packet.specs.declared.assembly.Taken.{Taken}
use Rattle.vx_packet.specs.declared.assembly.Taken.TheVariants as taken
use Rattle.vx_packet.specs.declared.key.Key.{Key}
use Rattle.vx_packet.specs.declared.message.Message.{Message}
use Rattle.vx_packet.specs.declared.part.Part.{Part}

-- the message in assembly, by its key, and of each of its parts the payload, where it has come
pub record HeldParts : Type 0 where
  pub key : Key
  pub parts : Parts

-- what an assembly has: a message in assembly, and the message that the last part has completed
pub record Assembled : Type 0 where
  pub held : Option HeldParts
  pub whole : Option Message

-- the key of the message that a part is of
abbrev pub key_in_part : Part → Key
key_in_part p = record { source = p.source; kind = p.kind; line = p.line; session = p.session; number = p.number; parts = p.parts }

-- the two keys are one
abbrev pub same_part_key : Key → Key → Bool
same_part_key a b =
    a.source == b.source
    && (a.kind == b.kind
    && (a.line.generation == b.line.generation
    && (a.line.origin == b.line.origin && (a.session == b.session && (a.number == b.number && a.parts == b.parts)))))

-- the parts that have come of the message with this key: none where another message is in assembly
abbrev pub parts_before : Option HeldParts → Key → Parts
parts_before None key = replicate key.parts None
parts_before (Some held) key = if same_part_key held.key key then held.parts else replicate key.parts None

-- the parts that have come, with this one
abbrev pub parts_after : Option HeldParts → Part → List ℕ → Parts
parts_after held p payload = set (parts_before held (key_in_part p)) p.part (Some (kept_payload p.part payload))

-- a message is in assembly, and some part of it has not come
pub record IsPartKept (p : Part) (parts : Parts) (new : Assembled) : Type 0 where
  pub missing : all_parts_came parts ≡ false
  pub held : new.held ≡ Some (record { key = key_in_part p; parts = parts })
  pub whole : new.whole ≡ None

-- the message is whole
pub record IsMessageWhole (p : Part) (parts : Parts) (new : Assembled) : Type 0 where
  pub all : all_parts_came parts ≡ true
  pub message : Message
  pub is : IsMessage p.kind p.session p.number (joined_parts parts) message
  pub held : new.held ≡ None
  pub whole : new.whole ≡ Some message

-- the whole payload is none of its kind's
pub record IsBad (p : Part) (parts : Parts) (new : Assembled) : Type 0 where
  pub all : all_parts_came parts ≡ true
  pub none : (m : Message) → IsMessage p.kind p.session p.number (joined_parts parts) m → ⊥
  pub held : new.held ≡ None
  pub whole : new.whole ≡ None

-- what taking a part with this payload answers and leaves
abbrev pub TakesPart : Assembled → Part → List ℕ → Taken → Assembled → Type 0
TakesPart old p payload taken.Kept new = IsPartKept p (parts_after old.held p payload) new
TakesPart old p payload taken.Whole new = IsMessageWhole p (parts_after old.held p payload) new
TakesPart old p payload taken.Bad new = IsBad p (parts_after old.held p payload) new

-- what an assembly holds, by the key and the parts that the program keeps
abbrev pub held_parts : Option Key → Parts → Option HeldParts
held_parts None parts = None
held_parts (Some key) parts = Some (record { key = key; parts = parts })

-- the message that the last part has completed, as it stands in its payload
abbrev pub completed_message : Option Key → Parts → Option Message
completed_message None parts = None
completed_message (Some key) parts = message_in key.kind key.session key.number (joined_parts parts)

-- all parts of what is whole have come
abbrev pub HasAllParts : Option Key → Parts → Type 0
HasAllParts None parts = Unit {0}
HasAllParts (Some key) parts = (0 < length parts) × (all_parts_came parts ≡ true)

-- whether a payload is a message under this kind and these fields of the header
abbrev pub ReadsMessage : ℕ → ℕ → ℕ → List ℕ → Bool → Type 0
ReadsMessage kind session number payload true = (m : Message) × (message_in kind session number payload ≡ Some m) × IsMessage kind session number payload m
ReadsMessage kind session number payload false = (m : Message) → IsMessage kind session number payload m → ⊥

-- there are as many places for parts as the key says
abbrev pub HasParts : Option Key → Parts → Type 0
HasParts None parts = Unit {0}
HasParts (Some key) parts = length parts ≡ key.parts
