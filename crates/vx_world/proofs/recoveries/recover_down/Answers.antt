-- `recover_down`: its result.
use Rattle.std.proofs.Common.{◌∙◌, ℕ, sym, ap}
use Rattle.std.specs.Prelude.{Option, None}
use Rattle.vx_history.specs.World.{Node}
use Rattle.vx_history.specs.Refusals.{unless_at_most}
use Rattle.vx_history.specs.Events.{recovery}
use Rattle.vx_sites.specs.Shapes.{world_of}
use Rattle.vx_world.proofs.Passing.{passed}
use Rattle.vx_world.proofs.recoveries.recover_down.Goals as goal

pub returns-in-None : goal.returns-in-None
returns-in-None c =
    let w = world_of c.args.world.now in
    let s = c.args.site in
    let o = recovery w s c.args.fails in
    passed c.bring_up.result (world_of c.bring_up.new.world) (recovery w s None) (unless_at_most (w.nodes s).session w o)
    (ap (λ (fails : Option ℕ). recovery w s fails) (sym c.in-None.is)
    ∙ c.in_default.ensures.refuses w o
    ∙ ap (λ (n : Node). unless_at_most n.session w o) c.node.ensures) c.bring_up.ensures
