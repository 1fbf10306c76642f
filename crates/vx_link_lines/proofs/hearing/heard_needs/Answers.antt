-- What the link needs as the packet leaves it.
use Rattle.std.proofs.Common.{refl}
use Rattle.vx_diskset.specs.Holds.{beside_of}
use Rattle.vx_joins.specs.Hearings.{world_behind}
use Rattle.vx_link_lines.proofs.HeardWorld.{behind_plain}
use Rattle.vx_link_lines.proofs.hearing.heard_needs.Goals as goal

pub returns : goal.returns
returns g c = record {
  is = λ d p fits at answers flight listening link stands line.
      let beside = beside_of d p.target in
      let n = d.world.nodes p.target in
      let safe = c.last-safe.ensures.is beside n stands listening.up listening.running in
      let heard = c.heard_link-heard.ensures d.world p p.target at refl answers flight
      (record { up = listening.up; running = listening.running; keeps = listening.keeps; linked = listening.linked; safe_is = safe; line_is = line }) link in
      c.needed.ensures.is beside n p.source ((world_behind d.world c.args.number).links p.target p.source) stands listening.up listening.running
      (behind_plain d c.args.number p at answers c.args.flight.now flight fits listening) heard;
}
