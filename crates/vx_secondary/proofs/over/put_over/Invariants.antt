-- The loop of `put_over` over `k`: what stays true.
use Rattle.vx_rvg.specs.Contents.{write_of_update}
use Rattle.vx_secondary.proofs.Overs.{IsPutTo}
use Rattle.vx_secondary.proofs.over.put_over.Given as goal

abbrev pub invariant-loop-k : goal.invariant-loop-k
invariant-loop-k l = IsPutTo (write_of_update l.update) l.vol l.start l.k l.initial.into l.into
