-- `packet`: clauses found and unknown.
use Rattle.std.proofs.Common.{◌<◌, ◌≤◌, ◌+◌, length, arith}
use Rattle.vx_model.specs.declared.limits.TheConstants.{MOST_PACKETS}
use Rattle.vx_sites.specs.Shapes.{packet_of}
use Rattle.vx_sites.proofs.Packets.{packet_found, packet_kept}
use Rattle.vx_sites.proofs.world.World.packet.Goals as goal

pub returns-clause-found : goal.returns-clause-found
returns-clause-found c =
    let some : 0 < c.args.number = omega arith in
    let new : length c.args.self.now.packets < c.args.number + MOST_PACKETS = omega arith in
    packet_found c.args.self.now.packets c.args.number (packet_of c.in_ok-packet.packet) some new c.in_ok-packet.ensures

pub returns-clause-unknown : goal.returns-clause-unknown
returns-clause-unknown c = λ none.
    let some : 0 < c.args.number = omega arith in
    let sent : c.args.number ≤ length c.args.self.now.packets = omega arith in
    let new : length c.args.self.now.packets < c.args.number + MOST_PACKETS = omega arith in
    absurd (packet_kept c.args.self.now.packets c.args.number some sent new none)

pub returns-in_err-packet-clause-unknown : goal.returns-in_err-packet-clause-unknown
returns-in_err-packet-clause-unknown c = λ none.
    let some : 0 < c.args.number = omega arith in
    let sent : c.args.number ≤ length c.args.self.now.packets = omega arith in
    let new : length c.args.self.now.packets < c.args.number + MOST_PACKETS = omega arith in
    absurd (packet_kept c.args.self.now.packets c.args.number some sent new none)
