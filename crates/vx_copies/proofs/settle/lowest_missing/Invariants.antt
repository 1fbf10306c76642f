-- The loop of `lowest_missing` over `k`: what stays true.
use Rattle.std.proofs.Common.{◌≡◌, None}
use Rattle.vx_copyfmt.specs.Imports.{missing}
use Rattle.vx_copies.specs.Answers.{flag_at}
use Rattle.vx_copies.specs.Bodies.{failed_in}
use Rattle.vx_copies.proofs.settle.lowest_missing.Given as goal

abbrev pub invariant-loop-k : goal.invariant-loop-k
invariant-loop-k l = missing (failed_in l.config) (flag_at l.readable) l.k ≡ None
