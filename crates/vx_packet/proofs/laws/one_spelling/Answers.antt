-- `one_spelling`: its result.
use Rattle.std.proofs.Common.{◌∙◌, sym}
use Rattle.std.proofs.lemmas.Option.{same_Some}
use Rattle.vx_packet.proofs.MessageAgain.{message_in-is}
use Rattle.vx_packet.proofs.PacketLemmas.{payload_in-packet_of, packet_of-is}
use Rattle.vx_packet.proofs.PartLemmas.{part_in-is}
use Rattle.vx_packet.proofs.TakingLemmas.{payload-few}
use Rattle.vx_packet.proofs.laws.one_spelling.Goals as goal

pub returns : goal.returns
returns c = record {
  part = λ bytes p q first second. sym (part_in-is bytes p first) ∙ part_in-is bytes q second;
  message = λ kind session number payload m n first second.
      same_Some m n (sym (message_in-is kind session number payload m first) ∙ message_in-is kind session number payload n second);
  few = payload-few;
  packet = packet_of-is;
  payload = payload_in-packet_of;
}
