-- The loop of `convert_maps` over `to`: what stays true.
use Rattle.std.proofs.Common.{◌≡◌}
use Rattle.vx_history.specs.World.{updated}
use Rattle.vx_sites.specs.Shapes.{link_maps, node_of, row_of}
use Rattle.vx_sites.specs.Rows.{map_let_in}
use Rattle.vx_sites.proofs.Tables.{changed_below}
use Rattle.vx_sites.proofs.row.convert_maps.Given as goal

abbrev pub invariant-loop-to : goal.invariant-loop-to
invariant-loop-to l =
    let maps = link_maps l.fn.maps.entries.items in
    link_maps l.maps.entries.items ≡ updated maps l.site (changed_below (λ k. map_let_in (node_of l.node) l.write k (row_of l.links k)) l.to (maps l.site))
