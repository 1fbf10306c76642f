-- `send_updates`: its result; what `send_update` asks; what stays true in its loop over `past`.
use Rattle.std.proofs.Common.{◌+◌, arith, map}
use Rattle.vx_history.specs.Sends.{updates}
use Rattle.vx_rvg.specs.Contents.{write_of_update}
use Rattle.vx_peers.proofs.Updates.{all_sent, at_place_of, one_sent, start_of}
use Rattle.vx_peers.proofs.sending.send_updates.Goals as goal

pub loop-past-init : goal.loop-past-init
loop-past-init g c = (λ ps stands. start_of ps c.args.envelope.now c.args.first c.args.updates.now (g.N.Net.flying c.args.flight.now) stands, omega arith)

pub send_update-requires : goal.send_update-requires
send_update-requires g c = record {
  generation = c.requires.generation;
  number = omega (arith, c.requires.numbers, c.loop-past-test.true);
  room = omega (arith, c.requires.room, c.loop-past.invariant.1, c.loop-past-test.true);
}

pub loop-past-preserved : goal.loop-past-preserved
loop-past-preserved g c =
    let was = c.loop-past.invariant in
    let e = c.args.envelope.now in
    let us = c.args.updates.now in (
      (λ ps stands. one_sent ps (updates e.source e.target e.line c.args.first (map write_of_update us)) e c.args.first c.loop-past.past (c.loop-past.past + 1) us c.index-updates-past.result
          (g.N.Net.flying c.loop-past.flight) (g.N.Net.flying c.send_update.new.flight) (was.0 ps stands) (at_place_of us c.loop-past.past c.index-updates-past.result (omega (arith, c.loop-past-test.true)) c.index-updates-past.is) (omega arith) c.send_update.ensures.flies),
      omega (arith, was.1, c.send_update.ensures.count),
    )

pub returns : goal.returns
returns g c = record {
  flies = λ ps stands. all_sent ps c.args.envelope.now c.args.first c.loop-past.past c.args.updates.now (g.N.Net.flying c.loop-past.flight) (omega (arith, c.loop-past-test.false)) (c.loop-past.invariant.0 ps stands);
}
