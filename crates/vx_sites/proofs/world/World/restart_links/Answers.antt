-- `restart_links`: its result.
use Rattle.std.proofs.Common.{ℕ, refl, ◌<◌, length, arith}
use Rattle.vx_history.specs.World.{Link}
use Rattle.vx_history.specs.Events.{restarted_link}
use Rattle.vx_sites.specs.Shapes.{world_of}
use Rattle.vx_sites.proofs.Worlds.{row_changed}
use Rattle.vx_sites.proofs.world.World.restart_links.Goals as goal

pub returns-then-site-len : goal.returns-then-site-len
returns-then-site-len c =
    let w = world_of c.args.self.now in
    let below : c.args.site < length c.args.self.now.rows.items = omega (arith, c.len.ensures, c.args.self.now.rows.ok.0) in
    row_changed w c.args.self.now.maps.entries.items c.args.self.now.rows.items c.args.site c.index_mut.result.now (record { links = c.restart_each.new.links }) (λ (row : ℕ → Link) (k : ℕ). restarted_link (w.nodes c.args.site) k (row k)) (λ row. refl) refl below c.index_mut.ensures.value (c.restart_each.ensures (w.nodes c.args.site))
