-- The loop of `note_links` over `k`: what stays true.
use Rattle.std.proofs.Common.{◌≡◌, false, length}
use Rattle.std.specs.List.{list_any}
use Rattle.vx_linked.specs.Holds.{grown_below, is_over}
use Rattle.vx_linked.proofs.growing.note_links.Given as goal

-- there are as many links as before, and where each can be counted those below k are grown
abbrev pub invariant-loop-k : goal.invariant-loop-k
invariant-loop-k l =
    (l.count ≡ length l.fn.site.links) × (length l.site.links ≡ length l.fn.site.links)
    × (list_any (is_over l.blocks) l.fn.site.links ≡ false → l.site ≡ record l.fn.site { links = grown_below l.number l.blocks l.k l.fn.site.links })
