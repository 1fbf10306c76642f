-- `write_if_let_in`: its result.
use Rattle.vx_history.specs.Refusals.{unless_at_most}
use Rattle.vx_history.specs.Events.{links_changed, put_in, admitted, written_if}
use Rattle.vx_sites.specs.Shapes.{world_of}
use Rattle.vx_world.proofs.Passing.{passed}
use Rattle.vx_world.proofs.writes.write_if_let_in.Goals as goal

pub returns : goal.returns
returns c =
    let w = world_of c.args.world.now in
    let s = c.args.site in
    passed c.write_unless_most.result (world_of c.write_unless_most.new.world)
    (unless_at_most (w.nodes s).safe w (put_in (links_changed w s c.args.write) s c.args.write c.args.fails))
    (written_if (admitted w s c.args.write) w s c.args.write c.args.fails) (c.in_default.ensures c.args.fails) c.write_unless_most.ensures
