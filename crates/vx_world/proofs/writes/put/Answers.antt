-- `put`: its result.
use Rattle.std.proofs.Common.{ℕ, sym, ap}
use Rattle.std.specs.Prelude.{Option, None}
use Rattle.vx_history.specs.Events.{put_in}
use Rattle.vx_sites.specs.Shapes.{world_of}
use Rattle.vx_world.proofs.Passing.{passed}
use Rattle.vx_world.proofs.writes.put.Goals as goal

pub returns-in-None : goal.returns-in-None
returns-in-None c =
    let w = world_of c.args.world.now in
    passed c.put_whole.result (world_of c.put_whole.new.world) (put_in w c.args.site c.args.write None) (put_in w c.args.site c.args.write c.args.fails)
    (ap (λ (fails : Option ℕ). put_in w c.args.site c.args.write fails) (sym c.in-None.is)) c.put_whole.ensures
