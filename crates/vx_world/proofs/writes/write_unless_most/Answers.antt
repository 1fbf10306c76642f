-- `write_unless_most`: its result; what `put` asks.
use Rattle.std.proofs.Common.{◌∙◌, ap, refl, arith}
use Rattle.vx_history.specs.World.{World, Node}
use Rattle.vx_history.specs.Refusals.{unless_at_most}
use Rattle.vx_history.specs.Events.{links_changed, put_in}
use Rattle.vx_sites.specs.Shapes.{world_of}
use Rattle.vx_world.proofs.Passing.{passed}
use Rattle.vx_world.proofs.writes.write_unless_most.Goals as goal

pub put-requires-clause-room : goal.put-requires-clause-room
put-requires-clause-room c =
    let same = ap (λ (w : World). (w.nodes c.args.site).safe) c.in_ok-let_in.ensures in
    let was = ap (λ (n : Node). n.safe) c.node.ensures in
    omega (arith, same, was, c.in_default.ensures.below refl)

pub returns : goal.returns
returns c =
    let w = world_of c.args.world.now in
    let s = c.args.site in
    let o = put_in (links_changed w s c.args.write) s c.args.write c.args.fails in
    passed c.put.result (world_of c.put.new.world) (put_in (world_of c.let_in.new.self) s c.args.write c.args.fails) (unless_at_most (w.nodes s).safe w o)
    (ap (λ (x : World). put_in x s c.args.write c.args.fails) c.in_ok-let_in.ensures
    ∙ c.in_default.ensures.refuses w o
    ∙ ap (λ (n : Node). unless_at_most n.safe w o) c.node.ensures) c.put.ensures
