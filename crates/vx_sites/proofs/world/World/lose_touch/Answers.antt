-- `lose_touch`: its result.
use Rattle.std.proofs.Common.{ℕ, refl, ◌<◌, length, arith}
use Rattle.vx_history.specs.World.{Link}
use Rattle.vx_history.specs.Events.{lost_touch}
use Rattle.vx_sites.specs.Shapes.{world_of}
use Rattle.vx_sites.proofs.Worlds.{row_changed}
use Rattle.vx_sites.proofs.world.World.lose_touch.Goals as goal

pub returns-then-site-len : goal.returns-then-site-len
returns-then-site-len c =
    let w = world_of c.args.self.now in
    let below : c.args.site < length c.args.self.now.rows.items = omega (arith, c.len.ensures, c.args.self.now.rows.ok.0) in
    row_changed w c.args.self.now.maps.entries.items c.args.self.now.rows.items c.args.site c.index_mut.result.now (record { links = c.lose_each.new.links }) (λ (row : ℕ → Link) (k : ℕ). lost_touch (row k)) (λ row. refl) refl below c.index_mut.ensures.value c.lose_each.ensures
