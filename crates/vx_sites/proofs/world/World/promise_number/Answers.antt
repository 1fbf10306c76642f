-- `promise_number`: its result.
use Rattle.std.proofs.Common.{◌≡◌, length, ◌≤◌, [], arith}
use Rattle.vx_sites.specs.Shapes.{world_of, node_of, plain_promise, link_maps, row_of}
use Rattle.std.specs.Prelude.{map}
use Rattle.vx_sites.proofs.Promising.{promised_world}
use Rattle.vx_sites.proofs.Worlds.{no_row, node_at}
use Rattle.vx_sites.proofs.world.World.promise_number.Goals as goal

pub returns-in-None : goal.returns-in-None
returns-in-None c =
    let w = c.args.self.now in
    let many : c.len-sites.result ≡ length w.nodes.items = omega (arith, c.len-sites.ensures, w.nodes.ok.0) in
    let past : length w.rows.items ≤ c.args.site = omega (arith, c.in-None.ensures.lookup) in
    promised_world c.promise_below-in-None.result (world_of w) (node_of c.index-node.result.now) c.args.site c.args.number c.len-sites.result (link_maps w.maps.entries.items c.args.site) (row_of []) (map plain_promise c.promise_below-in-None.new.promised.items)
    (node_at w.nodes.items c.args.site c.index-node.result.now c.requires c.index-node.ensures)
    (no_row w.maps.entries.items w.rows.items c.args.site past) many c.promise_below-in-None.ensures
