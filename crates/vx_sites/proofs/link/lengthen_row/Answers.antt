-- `lengthen_row`: what stays true in its loop over `links`.
use Rattle.std.proofs.Common.{◌∙◌}
use Rattle.vx_history.specs.World.{no_link}
use Rattle.vx_sites.specs.Shapes.{link_of}
use Rattle.vx_sites.proofs.Tables.{seen-longer}
use Rattle.vx_sites.proofs.link.lengthen_row.Goals as goal

pub loop-links-preserved : goal.loop-links-preserved
loop-links-preserved c =
    rw c.in_ok-push.ensures.items (seen-longer link_of no_link c.loop-links.links.items c.none.result c.none.ensures ∙ c.loop-links.invariant)
