-- `convert_maps`: its result; what stays true in its loop over `to`.
use Rattle.std.proofs.Common.{◌∙◌, ap, arith}
use Rattle.vx_history.specs.World.{Link}
use Rattle.vx_sites.specs.Shapes.{link_maps, node_of, row_of, with_link_map}
use Rattle.vx_sites.specs.Rows.{map_let_in}
use Rattle.vx_sites.proofs.Mapping.{row_begun, row_beyond, row_done, row_step}
use Rattle.vx_sites.proofs.row.convert_maps.Goals as goal

pub loop-to-init : goal.loop-to-init
loop-to-init c = row_begun (λ k. map_let_in (node_of c.args.node.now) c.args.write.now k (row_of c.args.links.now k)) (link_maps c.args.maps.now.entries.items) c.args.site

pub loop-to-preserved : goal.loop-to-preserved
loop-to-preserved c =
    let now = link_maps c.loop-to.maps.entries.items in
    row_step (λ k. map_let_in (node_of c.args.node.now) c.args.write.now k (row_of c.args.links.now k)) (link_maps c.args.maps.now.entries.items) now _ c.args.site c.loop-to.to c.loop-to.invariant
    (c.in_ok-convert_map.ensures
    ∙ ap (λ (l : Link). with_link_map now c.args.site c.loop-to.to (map_let_in (node_of c.args.node.now) c.args.write.now c.loop-to.to l (now c.args.site c.loop-to.to)))
    c.link_in-link.ensures)

pub returns : goal.returns
returns c =
    row_done (λ k. map_let_in (node_of c.args.node.now) c.args.write.now k (row_of c.args.links.now k)) (link_maps c.args.maps.now.entries.items) (link_maps c.loop-to.maps.entries.items) c.args.site c.loop-to.to c.loop-to.invariant
    (λ k m past. ap (λ (l : Link). map_let_in (node_of c.args.node.now) c.args.write.now k l m) (row_beyond c.args.links.now k (omega (arith, c.loop-to-test.false, past))))
