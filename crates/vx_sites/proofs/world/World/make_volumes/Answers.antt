-- `make_volumes`: its result.
use Rattle.std.proofs.Common.{◌≡◌, ◌∙◌, ℕ, List, map, refl, ap}
use Rattle.std.specs.Prelude.{None}
use Rattle.vx_model.specs.Content.{zeros}
use Rattle.vx_history.specs.World.{Node}
use Rattle.vx_history.specs.Volumes.{volumes_set}
use Rattle.vx_history.specs.declared.volumes.DataVolume.{DataVolume}
use Rattle.vx_sites.specs.Shapes.{sizes, world_of, node_of, content_of, lines_of}
use Rattle.vx_sites.proofs.Worlds.{node_changed, node_at, volumes_is, volumes_made_is}
use Rattle.vx_sites.proofs.world.World.make_volumes.Goals as goal

pub returns : goal.returns
returns c =
    let w = world_of c.args.self.now in
    let v = c.index_mut-node.result.now in
    let xs : List DataVolume = c.args.volumes.now in
    let lines = lines_of c.start_line.new.lines.items in
    let blocks : List ℕ = c.in_ok-sizes.sizes.items in
    let many : blocks ≡ map (λ (x : DataVolume). x.blocks) xs = c.in_ok-sizes.ensures ∙ ap (λ (ys : List DataVolume). map (λ (x : DataVolume). x.blocks) ys) c.as_slice.ensures.volumes in
    let called : c.in_ok-names.names.items ≡ map (λ (x : DataVolume). x.name) xs =
    c.in_ok-names.ensures ∙ ap (λ (ys : List DataVolume). map (λ (x : DataVolume). x.name) ys) c.as_slice-2.ensures.volumes in
    let first : content_of c.in_ok-start.start ≡ zeros (sizes blocks) = c.in_ok-start.ensures ∙ ap (λ (bs : List ℕ). zeros (sizes bs)) c.deref.ensures.value in
    let start : content_of c.in_ok-node.field-0 ≡ zeros (sizes blocks) = c.in_ok-node.ensures ∙ ap (λ (bs : List ℕ). zeros (sizes bs)) c.deref-2.ensures.value in
    let base : content_of c.in_ok-node-2.field-0 ≡ zeros (sizes blocks) = c.in_ok-node-2.ensures ∙ ap (λ (bs : List ℕ). zeros (sizes bs)) c.deref-3.ensures.value in
    node_changed (record w { lines = lines }) c.args.self.now.nodes.items c.args.site v
    (record v { ring = c.ring_of-node.result; start = c.in_ok-node.field-0; base = c.in_ok-node-2.field-0; names = c.in_ok-names.names; volumes = c.in_ok-sizes.sizes })
    (λ (n : Node). volumes_set c.args.log xs (record n { group = None })) refl refl c.requires c.index_mut-node.ensures.value
    (volumes_is (node_of v) c.args.log c.ring_of-node.result xs c.in_ok-names.names.items blocks (content_of c.in_ok-node.field-0) (content_of c.in_ok-node-2.field-0)
    c.ring_of-node.ensures called many start base)
    ∙ volumes_made_is w c.args.site c.args.log xs (node_of v) lines (content_of c.in_ok-start.start) blocks (node_at c.args.self.now.nodes.items c.args.site v c.requires c.index_mut-node.ensures.value)
    refl many first c.in_ok-start_line.ensures
