-- `detach`: its result.
use Rattle.std.proofs.Common.{◌∙◌, ap}
use Rattle.vx_history.specs.World.{Link, World}
use Rattle.vx_history.specs.Refusals.{says}
use Rattle.vx_history.specs.Sends.{with_link}
use Rattle.vx_history.specs.Events.{link_detached}
use Rattle.vx_history.specs.declared.event.Said.TheVariants.{Done}
use Rattle.vx_sites.specs.Shapes.{world_of}
use Rattle.vx_world.proofs.settings.detach.Goals as goal

pub returns : goal.returns
returns c =
    let w : World = world_of c.args.world.now in
    let l : Link = w.links c.args.from c.args.to in
    ap (λ (v : World). says v Done)
    (c.in_ok-renew_link.ensures ∙ ap (λ (k : Link). with_link w c.args.from c.args.to (link_detached k)) c.link-link.ensures)
    ∙ c.in_default.ensures.refuses _
