-- The messages of the world, as packets carry them.
use Rattle.std.specs.Prelude.{◌≡◌, ℕ, map, Option, None, Some}
use Rattle.std.specs.Option.{is_some}
use Rattle.vx_model.specs.declared.history.Line.{Line}
use Rattle.vx_history.specs.World.{Message, Key, Gathering, Hello, Update, NetAck, DataAck}
use Rattle.vx_packet.specs.Assemblies.{HeldParts}
use Rattle.vx_packet.specs.Takings.{key_of_message}
use Rattle.vx_packet.specs.declared.key.Key.{Key as KeyInBytes}
use Rattle.vx_packet.specs.declared.message.Message.{Message as Spelled}
use Rattle.vx_packet.specs.declared.message.Message.TheVariants as in_bytes

-- the message that packets carry
abbrev pub spelled_message : Message → Spelled
spelled_message (Hello session number stored) = in_bytes.Hello session number stored
spelled_message (Update number x) = in_bytes.Update number x.volume x.start x.bytes
spelled_message (NetAck session number) = in_bytes.NetAck session number
spelled_message (DataAck number) = in_bytes.DataAck number

-- a key as the world has it
abbrev pub plain : KeyInBytes → Key
plain k = record { source = k.source; kind = k.kind; line = k.line; session = k.session; number = k.number; parts = k.parts }

-- the key that the headers of the message's packets name
abbrev pub key_in_bytes : (source target : ℕ) → Line → Message → Key
key_in_bytes source target line m = plain (key_of_message (record { source = source; target = target; line = line }) (spelled_message m))

-- what an assembly of bytes has and what a site of the world has in assembly: the same parts of the same message have come
abbrev pub IsTied : Option HeldParts → Option Gathering → Type 0
IsTied None None = Unit {0}
IsTied None (Some g) = ⊥
IsTied (Some h) None = ⊥
IsTied (Some h) (Some g) = (plain h.key ≡ g.key) × (map is_some h.parts ≡ g.came)
