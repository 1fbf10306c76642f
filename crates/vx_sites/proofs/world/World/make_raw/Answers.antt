-- `make_raw`: its result.
use Rattle.std.proofs.Common.{◌≡◌, ◌∙◌, ◌-◌, ℕ, List, replicate, refl, ap, None}
use Rattle.vx_history.specs.World.{Node}
use Rattle.vx_model.specs.Content.{zeros}
use Rattle.vx_model.specs.Sites.{first_line}
use Rattle.vx_history.specs.Steps.{raw_set}
use Rattle.vx_model.specs.declared.site.Role.TheVariants.{Primary}
use Rattle.vx_model.specs.declared.site.Mark.TheVariants.{Consistent}
use Rattle.vx_model.specs.declared.site.SiteState.TheVariants.{Up}
use Rattle.vx_sites.specs.Shapes.{sizes, world_of, node_of, content_of, lines_of}
use Rattle.vx_sites.proofs.Worlds.{node_changed, node_at, raw_is, raw_made_is}
use Rattle.vx_sites.proofs.world.World.make_raw.Goals as goal

pub returns : goal.returns
returns c =
    let w = world_of c.args.self.now in
    let v = c.index_mut-node.result.now in
    let lines = lines_of c.begin_line.new.lines.items in
    let blocks : List ℕ = c.in_ok-volumes.volumes.items in
    let many : blocks ≡ replicate (v.disks - 2) v.blocks = c.in_ok-volumes.ensures.items_if_clones_equal (λ y is. cc)
    ∙ ap (λ (k : ℕ). replicate k v.blocks) c.saturating_sub-count.ensures in
    let first : content_of c.in_ok-start.start ≡ zeros (sizes blocks) = c.in_ok-start.ensures ∙ ap (λ (bs : List ℕ). zeros (sizes bs)) c.deref.ensures.value in
    let start : content_of c.in_ok-node.field-0 ≡ zeros (sizes blocks) = c.in_ok-node.ensures ∙ ap (λ (bs : List ℕ). zeros (sizes bs)) c.deref-2.ensures.value in
    let base : content_of c.in_ok-node-2.field-0 ≡ zeros (sizes blocks) = c.in_ok-node-2.ensures ∙ ap (λ (bs : List ℕ). zeros (sizes bs)) c.deref-3.ensures.value in
    node_changed (record w { lines = lines }) c.args.self.now.nodes.items c.args.site v
    (record v { state = Up; ring = c.ring_of-node.result; volumes = c.in_ok-volumes.volumes; names = c.clear.new.self; role = Primary; mark = Consistent; line = first_line c.args.site; top = 1; stood = c.push.new.self; session = 1; start = c.in_ok-node.field-0; base = c.in_ok-node-2.field-0; log = c.clear-2.new.self; safe = 0; halted = None })
    (λ (n : Node). raw_set c.args.site n) refl refl c.requires c.index_mut-node.ensures.value
    (raw_is (node_of v) c.args.site c.ring_of-node.result blocks c.clear.new.self.items c.push.new.self.items (content_of c.in_ok-node.field-0) (content_of c.in_ok-node-2.field-0) c.clear-2.new.self.items
    c.ring_of-node.ensures many c.clear.ensures.items c.in_ok-push.ensures.items start base c.clear-2.ensures.items)
    ∙ raw_made_is w c.args.site (node_of v) lines (content_of c.in_ok-start.start) blocks (node_at c.args.self.now.nodes.items c.args.site v c.requires c.index_mut-node.ensures.value)
    many first c.in_ok-begin_line.ensures
