-- `is_message`: its result.
use Rattle.vx_packet.specs.declared.part.Part.{Part}
use Rattle.vx_packet.proofs.MessageAgain.{message_in-is}
use Rattle.vx_packet.proofs.assembly.is_message.Goals as goal

pub returns-in-Some : goal.returns-in-Some
returns-in-Some c =
    let p : Part = c.args.part.now in (
      c.in-Some._message,
      message_in-is p.kind p.session p.number c.args.payload.now c.in-Some._message c.in-Some.ensures.found,
      c.in-Some.ensures.found,
    )
