-- `make_group`: its result.
use Rattle.std.proofs.Common.{◌∙◌, refl, None}
use Rattle.vx_history.specs.World.{Node}
use Rattle.vx_history.specs.Steps.{group_set}
use Rattle.vx_model.specs.Sites.{first_line}
use Rattle.vx_model.specs.declared.site.Role.TheVariants.{Primary}
use Rattle.vx_model.specs.declared.site.Mark.TheVariants.{Consistent}
use Rattle.vx_model.specs.declared.site.SiteState.TheVariants.{Up}
use Rattle.vx_sites.specs.Shapes.{world_of, node_of, content_of, lines_of}
use Rattle.vx_sites.proofs.Worlds.{node_changed, group_is, group_made_is}
use Rattle.vx_sites.proofs.world.World.make_group.Goals as goal

pub returns : goal.returns
returns c =
    let w = world_of c.args.self.now in
    let v = c.index_mut-node.result.now in
    let lines = lines_of c.begin_line.new.lines.items in
    node_changed (record w { lines = lines }) c.args.self.now.nodes.items c.args.site v
    (record v { state = Up; ring = 0; volumes = c.clear.new.self; names = c.clear-2.new.self; role = Primary; mark = Consistent; line = first_line c.args.site; top = 1; stood = c.push.new.self; session = 1; start = c.none-2.result; base = c.none-3.result; log = c.clear-3.new.self; safe = 0; halted = None })
    (λ (n : Node). group_set c.args.site n) refl refl c.requires c.index_mut-node.ensures.value
    (group_is (node_of v) c.args.site c.clear.new.self.items c.clear-2.new.self.items c.push.new.self.items (content_of c.none-2.result) (content_of c.none-3.result) c.clear-3.new.self.items
    c.clear.ensures.items c.in_ok-push.ensures.items c.none-2.ensures c.none-3.ensures c.clear-3.ensures.items)
    ∙ group_made_is w c.args.site lines (content_of c.none.result) c.none.ensures c.in_ok-begin_line.ensures
