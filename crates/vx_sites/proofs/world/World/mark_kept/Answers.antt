-- `mark_kept`: its result.
use Rattle.std.proofs.Common.{◌∙◌, ◌<◌, ◌≤◌, ℕ, List, length, drop, take, refl, ap, sym, arith}
use Rattle.vx_model.specs.Content.{Write}
use Rattle.vx_history.specs.World.{Link as PlainLink, Node}
use Rattle.vx_history.specs.ChangeMaps.{map_after}
use Rattle.vx_history.specs.Events.{link_marked, links_marked}
use Rattle.vx_sites.specs.declared.link.Link.{Link}
use Rattle.vx_sites.specs.Rows.{row_turned}
use Rattle.vx_sites.specs.Shapes.{link_maps, row_of, world_of}
use Rattle.vx_sites.proofs.Mapping.{on_ok, row_marked, row_none}
use Rattle.vx_sites.proofs.Worlds.{node_at}
use Rattle.vx_sites.proofs.world.World.mark_kept.Goals as goal

pub returns-then-site-len : goal.returns-then-site-len
returns-then-site-len c =
    let w = world_of c.args.self.now in
    let entries = c.args.self.now.maps.entries.items in
    let writes = c.newly_kept-writes.result.now in
    let below : c.args.site < length c.args.self.now.rows.items = omega (arith, c.len.ensures, c.args.self.now.rows.ok.0) in
    on_ok c.mark_maps.result _ _ c.mark_maps.ensures
    (λ is.
    row_marked w entries c.mark_maps.new.maps.entries.items c.args.self.now.rows.items c.args.site c.index-row.result.now writes
    refl below c.index-row.ensures (is ∙ ap (λ (ls : List Link). row_turned (link_maps entries) c.args.site (λ k m. map_after (row_of ls k).mode m writes)) c.deref-then-site-len.ensures.value)
    ∙ ap (λ (xs : List Write). links_marked w c.args.site xs) (c.newly_kept-writes.ensures ∙ ap (λ (xs : List Write). drop c.index-node.result.now.safe (take c.args.kept xs)) c.deref.ensures.value)
    ∙ ap (λ (n : Node). links_marked w c.args.site (drop n.safe (take c.args.kept n.log))) (sym (node_at c.args.self.now.nodes.items c.args.site c.index-node.result.now c.requires c.index-node.ensures)))

pub returns-else-site-len : goal.returns-else-site-len
returns-else-site-len c =
    let w = world_of c.args.self.now in
    let xs : List Write = drop (w.nodes c.args.site).safe (take c.args.kept (w.nodes c.args.site).log) in
    let past : length c.args.self.now.rows.items ≤ c.args.site = omega (arith, c.len.ensures, c.args.self.now.rows.ok.0) in
    row_none w c.args.self.now.maps.entries.items c.args.self.now.rows.items c.args.site (λ (k : ℕ) (l : PlainLink). link_marked xs l) refl past (λ k m. refl)
