-- `empty`: its result.
use Rattle.std.proofs.Common.{◌<◌, ℕ, length, ap, arith}
use Rattle.std.specs.Prelude.{Option, None}
use Rattle.vx_history.specs.World.{Gathering, World}
use Rattle.vx_sites.specs.Shapes.{world_of, held_of}
use Rattle.vx_sites.specs.declared.gathering.Place.{Place}
use Rattle.vx_sites.proofs.Tables.{seen-set}
use Rattle.vx_sites.proofs.world.World.empty.Goals as goal

pub returns-then-site-len : goal.returns-then-site-len
returns-then-site-len c =
    let w : World = world_of c.args.self.now in
    let below : c.args.site < length c.args.self.now.gathering.items = omega (arith, c.len.ensures, c.args.self.now.gathering.ok.0) in
    ap (λ (g : ℕ → Option Gathering). let v : World = record w { gathering = g } in v)
    (seen-set (λ (x : Place). held_of x.held) None c.args.self.now.gathering.items c.args.site (record { held = None }) below)
