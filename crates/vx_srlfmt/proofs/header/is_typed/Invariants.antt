-- The loop of `is_typed` over `link`: what stays true.
use Rattle.std.proofs.Common.{◌<◌, ◌^◌, take}
use Rattle.std.specs.Prelude.{All}
use Rattle.vx_srlfmt.proofs.header.is_typed.Given as goal

abbrev pub invariant-loop-link : goal.invariant-loop-link
invariant-loop-link l = All (λ k. k.site < 2 ^ 32) (take l.link-index l.h.state.links)
