-- The loop of `is_body` over `k`: what stays true.
use Rattle.std.proofs.Common.{◌≡◌, ℕ, ◌*◌, ◌<◌, get_or}
use Rattle.vx_srlfmt.specs.Kinds.{body_byte}
use Rattle.vx_srl.proofs.scan.is_body.Given as goal

abbrev pub invariant-loop-k : goal.invariant-loop-k
invariant-loop-k l = (j : ℕ) → j < l.k → get_or l.bytes (512 * j) 0 ≡ body_byte
