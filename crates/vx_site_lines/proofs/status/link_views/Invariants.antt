-- The loop of `link_views` over `link`: what stays true.
use Rattle.std.proofs.Common.{◌≡◌, take}
use Rattle.vx_above.specs.Seen.{links_seen}
use Rattle.vx_site_lines.proofs.status.link_views.Given as goal

abbrev pub invariant-loop-link : goal.invariant-loop-link
invariant-loop-link l = l.views ≡ links_seen l.sites (take l.link-index l.links)
