-- The loop of `copy` over `link`: what stays true.
use Rattle.std.proofs.Common.{◌≡◌, take}
use Rattle.vx_model.proofs.state.KeptLinks.copy.Given as goal

abbrev pub invariant-loop-link : goal.invariant-loop-link
invariant-loop-link l = l.links ≡ take l.link-index l.link-items
