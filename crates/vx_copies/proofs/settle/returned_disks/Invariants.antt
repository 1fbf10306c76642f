-- The loop of `returned_disks` over `k`: what stays true.
use Rattle.std.proofs.Common.{◌≡◌, ◌++◌, drop, length}
use Rattle.vx_copies.specs.Answers.{flag_at, returned_from}
use Rattle.vx_copies.proofs.settle.returned_disks.Given as goal

abbrev pub invariant-loop-k : goal.invariant-loop-k
invariant-loop-k l = record {
  len : length l.disks ≡ l.k;
  disks : l.disks ++ returned_from (flag_at l.readable) l.k (drop l.k l.old) ≡ returned_from (flag_at l.readable) 0 l.old;
}
