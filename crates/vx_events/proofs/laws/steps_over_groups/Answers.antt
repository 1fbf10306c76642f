-- Each clause is part of its theorem.
use Rattle.std.specs.Prelude.{IsTrue}
use Rattle.vx_events.proofs.Over.{over_plain, over_stops, plain_over}
use Rattle.vx_events.proofs.laws.steps_over_groups.Goals as goal

pub returns : goal.returns
returns c = record {
  over = λ tells files d line fails said new groups makes step. over_plain (IsTrue tells) files d line fails said new groups makes step;
  plain = λ tells files d line fails said new told groups makes step. plain_over (IsTrue tells) files d line fails said new told groups makes step;
  stops = λ tells files d line fails said new group step. over_stops (IsTrue tells) files d line fails said new group step;
}
