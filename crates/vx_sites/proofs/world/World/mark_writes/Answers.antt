-- `mark_writes`: its result.
use Rattle.std.proofs.Common.{◌∙◌, ◌<◌, List, length, ap, refl, arith}
use Rattle.vx_history.specs.ChangeMaps.{map_after}
use Rattle.vx_sites.specs.declared.link.Link.{Link}
use Rattle.vx_sites.specs.Rows.{row_turned}
use Rattle.vx_sites.specs.Shapes.{link_maps, row_of, world_of}
use Rattle.vx_sites.proofs.Mapping.{on_ok, row_marked}
use Rattle.vx_sites.proofs.world.World.mark_writes.Goals as goal

pub returns-then-site-len : goal.returns-then-site-len
returns-then-site-len c =
    let entries = c.args.self.now.maps.entries.items in
    let below : c.args.site < length c.args.self.now.rows.items = omega (arith, c.len.ensures, c.args.self.now.rows.ok.0) in
    on_ok c.mark_maps.result _ _ c.mark_maps.ensures
    (λ is.
    row_marked (world_of c.args.self.now) entries c.mark_maps.new.maps.entries.items c.args.self.now.rows.items c.args.site c.index-row.result.now c.args.writes.now
    refl below c.index-row.ensures (is ∙ ap (λ (ls : List Link). row_turned (link_maps entries) c.args.site (λ k m. map_after (row_of ls k).mode m c.args.writes.now)) c.deref.ensures.value))
