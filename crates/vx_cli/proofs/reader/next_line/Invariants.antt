-- The loop of `next_line` over `held`: what stays true, and what falls.
use Rattle.std.proofs.Common.{◌≤◌, ◌-◌, [], vec_len}
use Rattle.vx_cli.specs.Reading.{FollowsInput}
use Rattle.vx_cli.proofs.reader.next_line.Given as goal

abbrev pub invariant-loop-held : goal.invariant-loop-held
invariant-loop-held g l = record {
  before : FollowsInput l.initial.held.items (g.S.Source.left l.initial.source) [] l.held.items (g.S.Source.left l.source);
  later : g.S.Source.faults l.initial.source ≤ g.S.Source.faults l.source;
}

abbrev pub decreases-loop-held : goal.decreases-loop-held
decreases-loop-held g l = 4098 - vec_len l.held
