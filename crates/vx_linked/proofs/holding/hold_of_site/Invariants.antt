-- The loop of `hold_of_site` over `l`: what stays true.
use Rattle.std.proofs.Common.{◌≡◌, drop}
use Rattle.vx_linked.specs.Holds.{held_from, least_hold}
use Rattle.vx_linked.proofs.holding.hold_of_site.Given as goal

-- the lesser hold of the links that were looked at
abbrev pub invariant-loop-l : goal.invariant-loop-l
invariant-loop-l l = least_hold l.site ≡ held_from l.number (drop l.l-index l.l-items)
