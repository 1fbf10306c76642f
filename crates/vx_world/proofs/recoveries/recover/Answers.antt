-- `recover`: its result.
use Rattle.std.proofs.Common.{◌∙◌, sym, ap}
use Rattle.vx_history.specs.World.{Node}
use Rattle.vx_history.specs.Refusals.{unless_at_most, at_site}
use Rattle.vx_history.specs.Events.{recovery, recover_from}
use Rattle.vx_model.specs.declared.site.SiteState.{SiteState}
use Rattle.vx_sites.specs.Shapes.{world_of}
use Rattle.vx_world.proofs.Passing.{passed}
use Rattle.vx_world.proofs.recoveries.recover.Goals as goal

pub returns-in-Down : goal.returns-in-Down
returns-in-Down c =
    let w = world_of c.args.world.now in
    let s = c.args.site in
    let o = recover_from (w.nodes s).state w s c.args.fails in
    passed c.recover_down.result (world_of c.recover_down.new.world) (unless_at_most (w.nodes s).session w (recovery w s c.args.fails)) (at_site w s o)
    (ap (λ (state : SiteState). recover_from state w s c.args.fails) (sym c.in-Down.is)
    ∙ ap (λ (n : Node). recover_from n.state w s c.args.fails) c.node.ensures
    ∙ c.in_default.ensures.refuses o) c.recover_down.ensures
