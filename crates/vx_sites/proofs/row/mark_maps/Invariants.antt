-- The loop of `mark_maps` over `to`: what stays true.
use Rattle.std.proofs.Common.{◌≡◌}
use Rattle.vx_history.specs.World.{updated}
use Rattle.vx_history.specs.ChangeMaps.{map_after}
use Rattle.vx_sites.specs.Shapes.{link_maps, row_of}
use Rattle.vx_sites.proofs.Tables.{changed_below}
use Rattle.vx_sites.proofs.row.mark_maps.Given as goal

abbrev pub invariant-loop-to : goal.invariant-loop-to
invariant-loop-to l =
    let maps = link_maps l.fn.maps.entries.items in
    link_maps l.maps.entries.items ≡ updated maps l.site (changed_below (λ k m. map_after (row_of l.links k).mode m l.writes) l.to (maps l.site))
