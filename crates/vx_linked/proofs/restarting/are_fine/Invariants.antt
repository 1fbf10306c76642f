-- The loop of `are_fine` over `k`: what stays true.
use Rattle.std.proofs.Common.{◌≡◌, drop}
use Rattle.vx_effects.specs.Restarts.{are_fine as all_fine}
use Rattle.vx_linked.proofs.restarting.are_fine.Given as goal

-- the links below k are fine
abbrev pub invariant-loop-k : goal.invariant-loop-k
invariant-loop-k l = all_fine l.site l.sites l.links ≡ all_fine l.site l.sites (drop l.k l.links)
