-- `send_message`: its result; what stays true in its loop over `part`.
use Rattle.std.proofs.Common.{◌+◌, ◌++◌, List, sym, subst, arith, append-nil}
use Rattle.vx_history.specs.World.{Packet}
use Rattle.vx_courier.specs.UnderWay.{FlightStands}
use Rattle.vx_courier.proofs.Flying.{count_next}
use Rattle.vx_courier.proofs.Parts.{all_gone, part_sent}
use Rattle.vx_courier.proofs.sending.send_message.Goals as goal

pub loop-part-init : goal.loop-part-init
loop-part-init g c = (λ ps m is stands room. subst (λ (qs : List Packet). FlightStands qs (g.N.Net.flying c.args.flight.now)) (sym (append-nil ps)) stands, omega arith)

pub loop-part-preserved : goal.loop-part-preserved
loop-part-preserved g c = (
  λ ps m is stands room.
      part_sent c.args.envelope.now m c.args.message.now is c.requires.message c.is_typed.ensures ps c.loop-part.part (c.loop-part.part + 1) (g.N.Net.flying c.args.flight.now) (g.N.Net.flying c.loop-part.flight) (g.N.Net.flying c.send-number.new.self) _
      stands room (c.loop-part.invariant.0 ps m is stands room) (omega (arith, c.loop-part-test.true, c.parts-count.ensures)) (omega arith) c.encode-len.ensures.packet c.encode-len.ensures.bytes c.send-number.ensures.packets,
  omega (arith, c.loop-part.invariant.1, count_next (g.N.Net.flying c.loop-part.flight) (g.N.Net.flying c.send-number.new.self) _ c.send-number.ensures.packets),
)

pub returns : goal.returns
returns g c = record {
  sends = λ ps m is stands room.
      subst (λ (qs : List Packet). FlightStands (ps ++ qs) (g.N.Net.flying c.loop-part.flight))
      (all_gone c.args.envelope.now m c.args.message.now is c.requires.message c.is_typed.ensures c.loop-part.part (omega (arith, c.loop-part-test.false, c.loop-part.auto.part-end, c.parts-count.ensures)))
      (c.loop-part.invariant.0 ps m is stands room);
  count = omega (arith, c.loop-part.invariant.1, c.loop-part.auto.part-end, c.parts-count.ensures);
}
