-- `send_range`: clauses sent and more; what `send_updates` asks.
use Rattle.std.proofs.Common.{◌++◌, List, length, map, ap, subst, arith}
use Rattle.vx_model.specs.declared.call.Update.{Update}
use Rattle.vx_courier.specs.UnderWay.{FlightStands}
use Rattle.vx_history.specs.Sends.{updates}
use Rattle.vx_history.specs.World.{Packet}
use Rattle.vx_rvg.specs.Contents.{write_of_update}
use Rattle.vx_peers.proofs.MorePackets.{more_updates}
use Rattle.vx_peers.proofs.pumping.send_range.Goals as goal

pub returns-clause-sent : goal.returns-clause-sent
returns-clause-sent g c = λ tells h stands.
    let read = c.in_ok-updates.ensures.read.1 h stands tells in
    let e = c.args.envelope.now in (
      record {
        updates = c.in_ok-updates.updates.items;
        read = read.0;
        all = omega (arith, c.in_ok-updates.ensures.read.0, c.requires.some);
        flies = subst (λ (us : List Update). (ps : List Packet) → FlightStands ps (g.N.Net.flying c.args.flight.now) → FlightStands (ps ++ updates e.source e.target e.line c.args.from (map write_of_update us)) (g.N.Net.flying c.send_updates.new.flight)) c.deref.ensures.value c.send_updates.ensures.flies;
      },
      read.1,
    )

pub send_updates-requires-clause-numbers : goal.send_updates-requires-clause-numbers
send_updates-requires-clause-numbers g c =
    omega (arith, ap (λ (us : List Update). length us) c.deref.ensures.value, c.in_ok-updates.ensures.read.0, c.requires.some, c.requires.number)

pub returns-clause-more : goal.returns-clause-more
returns-clause-more g c =
    more_updates c.args.envelope.now c.args.from c.args.to c.deref.result.now (g.N.Net.flying c.args.flight.now) (g.N.Net.flying c.send_updates.new.flight)
    (omega (arith, ap (λ (us : List Update). length us) c.deref.ensures.value, c.in_ok-updates.ensures.read.0, c.requires.some)) c.send_updates.ensures.flies
