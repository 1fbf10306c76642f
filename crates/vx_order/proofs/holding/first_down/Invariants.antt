-- The loop of `first_down` over `l`: what stays true.
use Rattle.std.proofs.Common.{◌≡◌, drop}
use Rattle.vx_order.specs.Holding.{down_link}
use Rattle.vx_order.proofs.holding.first_down.Given as goal

abbrev pub invariant-loop-l : goal.invariant-loop-l
invariant-loop-l g = down_link g.sites (drop g.l-index g.links) ≡ down_link g.sites g.links
