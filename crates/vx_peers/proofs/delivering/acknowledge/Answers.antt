-- `acknowledge`: its result.
use Rattle.std.proofs.Common.{refl, arith}
use Rattle.vx_history.specs.World.{NetAck}
use Rattle.vx_peers.proofs.delivering.acknowledge.Goals as goal

pub returns : goal.returns
returns g c = record { sends = λ ps stands room. c.send_message.ensures.sends ps (NetAck c.args.session c.args.number) refl stands (omega (arith, room)) }
