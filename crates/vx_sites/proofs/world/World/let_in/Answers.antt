-- `let_in`: its result.
use Rattle.std.proofs.Common.{◌∙◌, List, ap, refl, sym, ◌<◌, length, arith}
use Rattle.vx_history.specs.World.{Node}
use Rattle.vx_history.specs.Sends.{with_links}
use Rattle.vx_history.specs.Events.{link_after}
use Rattle.vx_sites.specs.declared.link.Link.{Link}
use Rattle.vx_sites.specs.Rows.{map_let_in, row_turned}
use Rattle.vx_sites.specs.Shapes.{link_maps, node_of, row_of, world_of}
use Rattle.vx_sites.proofs.Mapping.{row_let_in}
use Rattle.vx_sites.proofs.Worlds.{node_at}
use Rattle.vx_sites.proofs.world.World.let_in.Goals as goal

pub returns-in_ok-convert_maps : goal.returns-in_ok-convert_maps
returns-in_ok-convert_maps c =
    let w = world_of c.args.self.now in
    let entries = c.args.self.now.maps.entries.items in
    let n : Node = node_of c.index-node.result.now in
    let below : c.args.site < length c.args.self.now.rows.items = omega (arith, c.len.ensures, c.args.self.now.rows.ok.0) in
    row_let_in w entries c.convert_maps.new.maps.entries.items c.args.self.now.rows.items c.args.site c.index_mut-row.result.now (record { links = c.change_each.new.links }) n c.args.write.now
    refl below c.index_mut-row.ensures.value
    (c.in_ok-convert_maps.ensures ∙ ap (λ (ls : List Link). row_turned (link_maps entries) c.args.site (λ k. map_let_in n c.args.write.now k (row_of ls k))) c.deref.ensures.value)
    c.change_each.ensures
    ∙ ap (λ (m : Node). with_links w c.args.site (λ k. link_after m c.args.write.now k (w.links c.args.site k))) (sym (node_at c.args.self.now.nodes.items c.args.site c.index-node.result.now c.requires c.index-node.ensures))
