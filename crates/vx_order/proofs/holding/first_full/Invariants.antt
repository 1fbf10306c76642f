-- The loop of `first_full` over `l`: what stays true.
use Rattle.std.proofs.Common.{◌≡◌, drop}
use Rattle.vx_order.specs.Holding.{full_link}
use Rattle.vx_order.proofs.holding.first_full.Given as goal

abbrev pub invariant-loop-l : goal.invariant-loop-l
invariant-loop-l g = full_link g.sites g.need g.room (drop g.l-index g.links) ≡ full_link g.sites g.need g.room g.links
