-- The loop of `convert_links` over `k`: what stays true.
use Rattle.std.proofs.Common.{◌≡◌, length}
use Rattle.vx_linked.specs.Converting.{converted_fact, turned_below}
use Rattle.vx_linked.proofs.converting.convert_links.Given as goal

-- there are as many links as before, and those below k are converted
abbrev pub invariant-loop-k : goal.invariant-loop-k
invariant-loop-k l =
    (l.count ≡ length l.fn.site.links) × (length l.site.links ≡ length l.fn.site.links) × (l.site ≡ record l.fn.site { links = turned_below (converted_fact l.need l.room) l.k l.fn.site.links })
