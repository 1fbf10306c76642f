-- What messages in memory, and the packets that carry them, are seen as.
use Rattle.std.specs.Prelude.{List, [], ◌∷◌, ◌++◌}
use Rattle.vx_history.specs.World.{Message as PlainMessage, Packet as PlainPacket, Hello as PlainHello, Update as PlainUpdate, NetAck as PlainNetAck, DataAck as PlainDataAck}
use Rattle.vx_history.specs.Sends.{packets_of}
use Rattle.vx_sites.specs.declared.packet.Message.{Message}
use Rattle.vx_sites.specs.declared.packet.Message.TheVariants.{Hello, Update, NetAck, DataAck}
use Rattle.vx_sites.specs.declared.packet.Dispatch.{Dispatch}

abbrev pub message_of : Message → PlainMessage
message_of (Hello session number stored) = PlainHello session number stored
message_of (Update number write) = PlainUpdate number write.value
message_of (NetAck session number) = PlainNetAck session number
message_of (DataAck number) = PlainDataAck number

-- the packets of one message behind those of another
abbrev pub packets_in : List Dispatch → List PlainPacket
packets_in [] = []
packets_in (d ∷ ds) = packets_of d.source d.target d.line (message_of d.message) ++ packets_in ds
