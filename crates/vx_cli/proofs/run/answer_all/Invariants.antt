-- The loop of `answer_all` over `number`: what stays true.
use Rattle.std.proofs.Common.{◌≤◌, []}
use Rattle.vx_cli.specs.Turns.{TurnReaches}
use Rattle.vx_cli.proofs.run.answer_all.Given as goal

abbrev pub invariant-loop-number : goal.invariant-loop-number
invariant-loop-number g l = record {
  reaches : TurnReaches l.number l.initial.yard l.yard [] l.held.items (g.I.Source.left l.initial.source) (g.I.Source.left l.source) (g.O.Sink.written l.initial.sink) (g.O.Sink.written l.sink);
  read : g.I.Source.faults l.initial.source ≤ g.I.Source.faults l.source;
  write : g.O.Sink.faults l.initial.sink ≤ g.O.Sink.faults l.sink;
}
