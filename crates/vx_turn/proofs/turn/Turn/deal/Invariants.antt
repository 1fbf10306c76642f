-- The loop of `deal` over `number`: what stays true, and what falls.
use Rattle.std.proofs.Common.{◌≡◌, ◌+◌, ◌≤◌, [], vec_capacity, length}
use Rattle.vx_turn.specs.Turning.{first_view}
use Rattle.vx_turn.specs.Passing.{PassesLeft}
use Rattle.vx_turn.proofs.turn.Turn.deal.Given as goal

abbrev pub invariant-loop-number : goal.invariant-loop-number
invariant-loop-number g l = record {
  count : length l.left.items + l.number ≡ l.callers;
  room : l.callers ≤ vec_capacity l.left;
  left : PassesLeft l.self.table.shared.table_id l.fn.seat.me.0.start l.callers l.left.items;
  table : l.seat.table_id ≡ l.self.table.shared.table_id;
  root : l.seat.me ≡ (record (first_view l.callers l.fn.seat.me.0.start) { high = l.number }, []);
}

abbrev pub decreases-loop-number : goal.decreases-loop-number
decreases-loop-number g l = l.number
