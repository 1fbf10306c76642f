-- The loop of `mask_body` over `k`: what stays true.
use Rattle.vx_ringio.proofs.Masks.{Masked}
use Rattle.vx_ringio.proofs.body.mask_body.Given as goal

abbrev pub invariant-loop-k : goal.invariant-loop-k
invariant-loop-k l = Masked l.k l.fn.bytes l.bytes l.firsts
