-- `renew_link`: its result.
use Rattle.std.proofs.Common.{ℕ, ap}
use Rattle.vx_history.specs.World.{Link}
use Rattle.vx_sites.specs.Shapes.{world_of, link_maps}
use Rattle.vx_sites.proofs.Worlds.{mapped}
use Rattle.vx_sites.proofs.Mapping.{link_renewed}
use Rattle.vx_sites.proofs.world.World.renew_link.Goals as goal

pub returns : goal.returns
returns c =
    let maps = c.args.self.now.maps.entries.items in
    link_renewed (world_of c.args.self.now) maps c.clear.new.self.entries.items c.lengthen_rows.new.rows.items c.args.from c.args.to c.index_mut.result.now c.set.new.self c.args.link
    (ap (λ (f : ℕ → ℕ → Link). mapped (link_maps maps) f) c.in_ok-lengthen_rows.ensures.same) c.in_ok-clear.ensures c.in_ok-lengthen_rows.ensures.within c.index_mut.ensures.value c.in_ok-set.ensures
