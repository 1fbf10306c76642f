-- `set`: its result.
use Rattle.std.proofs.Common.{◌∙◌, ℕ, ap}
use Rattle.vx_history.specs.World.{no_link, updated, Link}
use Rattle.vx_sites.specs.Shapes.{link_of}
use Rattle.vx_sites.proofs.Tables.{seen-set}
use Rattle.vx_sites.proofs.link.Row.set.Goals as goal

pub returns : goal.returns
returns c =
    seen-set link_of no_link c.lengthen_row.new.links.items c.args.to c.args.link c.in_ok-lengthen_row.ensures.within
    ∙ ap (λ (f : ℕ → Link). updated f c.args.to (link_of c.args.link)) c.in_ok-lengthen_row.ensures.same
