-- The loop of `list_links` over `place`: what stays true.
use Rattle.std.proofs.Common.{◌≡◌}
use Rattle.vx_history.specs.Events.{plain_links, linked_sites}
use Rattle.vx_sites.specs.Shapes.{world_of}
use Rattle.vx_world.proofs.admission.list_links.Given as goal

abbrev pub invariant-loop-place : goal.invariant-loop-place
invariant-loop-place l =
    let row = (world_of l.world).links l.site in l.links.items ≡ plain_links row (linked_sites row l.sites 0 l.place)
