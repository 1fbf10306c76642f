-- The loop of `value_of` over `b`: what stays true.
use Rattle.std.proofs.Common.{◌≡◌, ◌≤◌, ◌+◌, ◌*◌, length, drop, ◌^◌}
use Rattle.vx_script.specs.Words.{digits_after}
use Rattle.vx_script.proofs.values.value_of.Given as goal

abbrev pub invariant-loop-b : goal.invariant-loop-b
invariant-loop-b l = record {
  value : digits_after l.value (drop l.b-index l.word) ≡ digits_after 0 l.word;
  small : l.value + 23 ≤ 23 * 10 ^ l.b-index;
  short : length l.word ≤ 20;
}
