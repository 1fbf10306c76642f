-- The loop of `give_up`: what stays true.
use Rattle.std.proofs.Common.{◌≡◌, drop}
use Rattle.std.specs.VecDeque.{deque_capacity}
use Rattle.vx_srl.specs.Views.{widths}
use Rattle.vx_srl.proofs.log.Srl.give_up.Given as goal

abbrev pub invariant-loop : goal.invariant-loop
invariant-loop l = record {
  unit : l.self-inside.unit ≡ l.initial.self-inside.unit;
  ring : l.self-inside.ring ≡ l.initial.self-inside.ring;
  sealed : l.self-inside.sealed ≡ l.initial.self-inside.sealed;
  end : l.self-inside.end ≡ l.initial.self-inside.end;
  items : l.self-inside.records.items ≡ drop l.counter l.initial.self-inside.records.items;
  used : l.self-inside.used ≡ widths l.self-inside.records.items;
  capacity : deque_capacity l.self-inside.records ≡ deque_capacity l.initial.self-inside.records;
}
