-- `deport_site`: its result; what `deport` asks.
use Rattle.std.proofs.Common.{◌≡◌, ◌∙◌, ◌<◌, length, ap, sym, subst}
use Rattle.std.specs.Prelude.{ℕ}
use Rattle.vx_history.specs.World.{Fuse, World}
use Rattle.vx_history.specs.Events.{kept_of}
use Rattle.vx_history.specs.Steps.{deported_world}
use Rattle.vx_sites.proofs.Worlds.{no_fuses}
use Rattle.vx_sites.specs.Shapes.{world_of}
use Rattle.vx_world.proofs.Downs.{crash_count}
use Rattle.vx_world.proofs.outages.deport_site.Goals as goal

pub deport-requires : goal.deport-requires
deport-requires c =
    let w : World = world_of c.args.world.now in
    let sites : length c.crash_site.new.world.nodes.items ≡ w.sites =
    ap (λ (x : World). x.sites) c.in_ok-crash_site.ensures ∙ crash_count w c.args.site (kept_of (w.nodes c.args.site) 0) in
    subst (λ (n : ℕ). c.args.site < n) (sym sites) c.requires

pub returns : goal.returns
returns c =
    let w : World = world_of c.args.world.now in
    let v : World = world_of c.crash_site.new.world in
    let fuse : (v.nodes c.args.site).fuse ≡ (w.nodes c.args.site).fuse =
    no_fuses c.crash_site.new.world.nodes.items c.args.site ∙ sym (no_fuses c.args.world.now.nodes.items c.args.site) in
    c.deport.ensures
    ∙ ap (λ (f : Fuse). deported_world f v c.args.site) fuse
    ∙ ap (λ (x : World). deported_world (w.nodes c.args.site).fuse x c.args.site) c.in_ok-crash_site.ensures
