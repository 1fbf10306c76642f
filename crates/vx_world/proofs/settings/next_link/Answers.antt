-- `next_link`: its result.
use Rattle.std.proofs.Common.{◌∙◌, ℕ, sym, ap}
use Rattle.vx_history.specs.World.{Node}
use Rattle.vx_history.specs.Events.{new_link}
use Rattle.vx_sites.specs.Shapes.{world_of}
use Rattle.vx_world.proofs.settings.next_link.Goals as goal

pub returns : goal.returns
returns c =
    let n = (world_of c.args.world.now).nodes c.args.to in
    c.new.ensures n (ap (λ (m : Node). m.session) (sym c.node.ensures)) ∙ ap (λ (k : ℕ). new_link k c.args.sync c.args.prot n) c.count_links.ensures
