-- The loop of `unmask_body` over `k`: what stays true.
use Rattle.vx_ringio.proofs.Masks.{Unmasked}
use Rattle.vx_ringio.proofs.body.unmask_body.Given as goal

abbrev pub invariant-loop-k : goal.invariant-loop-k
invariant-loop-k l = Unmasked l.k l.head.firsts l.fn.bytes l.bytes
