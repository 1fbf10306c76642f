-- Each clause is part of its theorem.
use Rattle.vx_effects.proofs.Packets.{received_is, update_effect}
use Rattle.vx_effects.proofs.packet_laws.updates_change_their_target.Goals as goal

pub returns : goal.returns
returns c = record { update = update_effect; fact = received_is }
