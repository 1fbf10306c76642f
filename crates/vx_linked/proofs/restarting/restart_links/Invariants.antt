-- The loop of `restart_links` over `k`: what stays true.
use Rattle.std.proofs.Common.{◌≡◌, take}
use Rattle.vx_effects.specs.Restarts.{facts_again}
use Rattle.vx_linked.proofs.restarting.restart_links.Given as goal

-- the links below k are in the room
abbrev pub invariant-loop-k : goal.invariant-loop-k
invariant-loop-k l = l.room ≡ facts_again (take l.k l.links) l.used
