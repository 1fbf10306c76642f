-- `set`: its result.
use Rattle.std.proofs.Common.{◌∙◌, ap}
use Rattle.vx_history.specs.World.{Link, World}
use Rattle.vx_history.specs.Refusals.{says}
use Rattle.vx_history.specs.Sends.{with_link}
use Rattle.vx_history.specs.Events.{link_with}
use Rattle.vx_history.specs.declared.event.Said.TheVariants.{Done}
use Rattle.vx_sites.specs.Shapes.{world_of, with_map}
use Rattle.vx_world.proofs.settings.set.Goals as goal

pub returns : goal.returns
returns c =
    let w : World = world_of c.args.world.now in
    let l : Link = w.links c.args.from c.args.to in
    ap (λ (v : World). says v Done)
    (c.in_ok-set_link.ensures ∙ ap (λ (k : Link). with_link w c.args.from c.args.to (with_map l.map (link_with c.args.sync c.args.prot k))) c.link-link.ensures)
    ∙ c.in_default.ensures.refuses _
