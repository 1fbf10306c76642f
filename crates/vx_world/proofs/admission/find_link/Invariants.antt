-- The loop of `find_link` over `to`: what stays true.
use Rattle.std.proofs.Common.{◌≡◌}
use Rattle.vx_history.specs.Events.{link_in_place}
use Rattle.vx_sites.specs.Shapes.{world_of}
use Rattle.vx_world.proofs.admission.find_link.Given as goal

abbrev pub invariant-loop-to : goal.invariant-loop-to
invariant-loop-to l = l.found ≡ link_in_place ((world_of l.world).links l.site) l.place l.to
